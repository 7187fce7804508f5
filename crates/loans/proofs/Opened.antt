-- A job just opened on a file.
use Rattle.std.proofs.Common.{◌≡◌, ℕ, List, [], length, Some, None, Option, Ok, Err, Result, sym, ap, ◌∙◌}
use Rattle.refusal.specs.declared.Refusal.{Refusal}
use Rattle.formats.specs.declared.format_name.FormatName.{FormatName}
use Rattle.dds.specs.declared.header.Header.{Header}
use Rattle.dds.specs.declared.layout.Layout.{Layout}
use Rattle.dds.specs.declared.source.FormatSource.{FormatSource}
use Rattle.dds.specs.Readings.{Reading}
use Rattle.dds.specs.Sources.{source_of}
use Rattle.dds.specs.Headers.{header_read, header_name}
use Rattle.dds.specs.Layouts.{OpenedAs, OpenedIn, OpenedBy}
use Rattle.loans.specs.Books.{Book, fresh_book}
use Rattle.loans.specs.Stocks.{Stock, ShelfPair, stock_of, empty_stock}
use Rattle.loans.specs.Rules.{Request, after_all}
use Rattle.loans.specs.Runs.{opened_state}
use Rattle.loans.specs.Scrapping.{WithOwn}
use Rattle.loans.proofs.Runs.{law_run, own_run}

-- ---- the file has the length that the job writes down

by_name : (x : Reading) (source : FormatSource) (name : Option FormatName) (y : Layout) → OpenedAs x source name (Ok y) → y.table.length ≡ x.length
by_name x source None y h = absurd cc
by_name x source (Some name) y h = h.table.length

by_header : (x : Reading) (names : ℕ → Option FormatName) (r : Result Header Refusal) (y : Layout) → OpenedIn x names r (Ok y)
    → y.table.length ≡ x.length
by_header x names (Err e) y h = absurd cc
by_header x names (Ok header) y h = by_name x (source_of header) (header_name names header) y h

pub length_by_codes : (x : Reading) (names : ℕ → Option FormatName) (y : Layout) → OpenedBy x names (Ok y) → y.table.length ≡ x.length
length_by_codes x names y h = by_header x names (header_read x) y h

-- ---- with two empty shelves

pub is_empty_stock : {v w : ShelfPair} {most_marks most_bytes : ℕ} → v ≡ w → w.marks.items ≡ [] → w.bytes.items ≡ [] → w.marks.most ≡ most_marks
    → w.bytes.most ≡ most_bytes → stock_of v ≡ empty_stock most_marks most_bytes
is_empty_stock e a b c d = ap stock_of e ∙ (λ i. record { marks = a i; bytes = b i; most_marks = c i; most_bytes = d i })

pub opened_is : {b : Book} {k m : Stock} (y : Layout) (number : ℕ) (f : List ℕ) → b ≡ fresh_book y (Some number) → k ≡ m
    → record { book = b; file = f; stock = k } ≡ opened_state y number f m
opened_is y number f e h = λ i. record { book = e i; file = f; stock = h i }

-- after every list of calls file and shelves are the job's
pub with_own_run : (y : Layout) (number : ℕ) (file : List ℕ) (k : Stock) (ds : List Request) → length file ≡ y.table.length → k.marks ≡ [] → k.bytes ≡ []
    → WithOwn (after_all (opened_state y number file k) ds)
with_own_run y number file k ds e a b =
    let own_shelves = own_run y number file k ds e a b in
    record {
      sized = own_shelves.1 ∙ sym (ap (λ (x : Layout). x.table.length) (law_run y number file k ds e a b).layout);
      own_shelves = own_shelves.0;
    }

-- A day on a texture that was opened.
use Rattle.std.proofs.Common.{◌≡◌, ℕ, List, ◌++◌, length, Some, Ok, refl, sym, ap, ◌∙◌, subst}
use Rattle.dds.specs.declared.layout.Layout.{Layout}
use Rattle.loans.specs.Books.{Book, fresh_book}
use Rattle.loans.specs.Stocks.{Stock, empty_stock}
use Rattle.loans.specs.Strokes.{State, state_of}
use Rattle.loans.specs.Rules.{Request, answers_to, after_all}
use Rattle.loans.specs.Journals.{journal_of}
use Rattle.loans.specs.Law.{Law}
use Rattle.loans.specs.Scrapping.{WithOwn}
use Rattle.loans.proofs.Calls.{answers_to_length}
use Rattle.loans.proofs.Runs.{law_run}
use Rattle.loans.proofs.Opened.{opened_is, with_own_run}
use Rattle.orders.specs.declared.ending.Ending.{Ending}
use Rattle.orders.specs.declared.ending.Ending.TheVariants.{Refused, Shipped, Scrapped}
use Rattle.orders.specs.Lines.{lines_of}
use Rattle.orders.specs.Days.{DayInputs, MasterOpened, morning, answer_lines, Closed, calls_in, answers_in, Worked, EndedAs}
use Rattle.orders.specs.steps.Answering.{LinesAnswered, Begun}

-- the program's job and shelves, just opened
pub begins : (g : DayInputs) (number : ℕ) (b : Book) (k : Stock) → (number ≡ 1) × MasterOpened g (Ok b.layout) × (b ≡ fresh_book b.layout (Some 1))
    → length g.master ≡ b.layout.table.length → k ≡ empty_stock 64 4096 → Begun g number (state_of b g.master k)
begins g number b k opened sized empty =
    record { first = opened.0; opened = opened.1; sized = sized; state = opened_is b.layout 1 g.master opened.2 empty }

module _ (g : DayInputs) (number : ℕ) (s₀ : State) (begun : Begun g number s₀) where
  abbrev y : Layout
  y = s₀.book.layout

  abbrev first : State
  first = morning y g.master

  module _ (lines : List (List ℕ)) (s : State) (new : List ℕ) (all : LinesAnswered lines s₀ g.before s new) where
    abbrev calls : List Request
    calls = calls_in all.requests

    end : s ≡ after_all first calls
    end = all.left ∙ ap (λ (x : State). after_all x calls) begun.state

    law : Law y 1 64 4096 g.master (journal_of calls (answers_to first calls)) s
    law =
        subst (Law y 1 64 4096 g.master (journal_of calls (answers_to first calls))) (sym end)
        (law_run y 1 g.master (empty_stock 64 4096) calls begun.sized refl refl)

    pub numbered : s.book.number ≡ Some number
    numbered = law.numbered ∙ ap (λ n. Some n) (sym begun.first)

    pub with_own : WithOwn s
    with_own = subst WithOwn (sym end) (with_own_run y 1 g.master (empty_stock 64 4096) calls begun.sized refl refl)

  module _ (s : State) (new : List ℕ) (all : LinesAnswered (lines_of g.orders) s₀ g.before s new) where
    worked : (ending : Ending) (file : List ℕ) → Closed s ending file → Worked g ending file new
    worked ending file closed = record {
      layout = y;
      opened = begun.opened;
      requests = all.requests;
      asked = all.asked;
      answers = answers_to first (calls_in all.requests);
      each = answers_to_length first (calls_in all.requests);
      by_rules = refl;
      printed =
          all.printed
          ∙ ap (λ (x : State). g.before ++ answer_lines (answers_in all.requests (answers_to x (calls_in all.requests)))) begun.state;
      end = s;
      law = law (lines_of g.orders) s new all;
      closed = closed;
    }

    pub ended : (ending : Ending) (file : List ℕ) → Closed s ending file → EndedAs g ending file new
    ended (Refused e) file closed = absurd closed
    ended Shipped file closed = worked Shipped file closed
    ended Scrapped file closed = worked Scrapped file closed

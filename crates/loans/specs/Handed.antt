-- A loan that was handed in: no later call changes anything through it.
use Rattle.std.specs.Prelude.{◌≡◌, ℕ, Bool, true, false, List, [], ◌∷◌, length, Some, Ok, Err, Result, ◌==◌}
use Rattle.refusal.specs.declared.Refusal.{Refusal}
use Rattle.refusal.specs.declared.Refusal.TheVariants.{LoanNotOut}
use Rattle.loans.specs.Books.{Book}
use Rattle.loans.specs.Stocks.{Stock}
use Rattle.loans.specs.Strokes.{State, state_of}
use Rattle.loans.specs.Rules.{Request, call_refusal, after}
use Rattle.loans.specs.Rules.Request.{lend, paint, undo, keep, cancel}

-- a call with whatever file and shelves it is given
pub record LaterCall : Type 0 where
  pub file : List ℕ
  pub stock : Stock
  pub request : Request

-- the job after calls, each with its own file and shelves
abbrev pub later_book : Book → List LaterCall → Book
later_book b [] = b
later_book b (x ∷ xs) = later_book (after (state_of b x.file x.stock) x.request).book xs

-- the call is on the loan of that number
abbrev pub is_on : ℕ → Request → Bool
is_on n (lend p who) = false
is_on n (paint p) = n == p.loan
is_on n (undo m who) = n == m
is_on n (keep m) = n == m
is_on n (cancel m) = n == m

-- a call is refused and changes nothing; where the file has the job's length, the reason is that the loan is not out
pub record RefusedAsNotOut (s : State) (d : Request) : Type 0 where
  pub reason : Refusal
  pub refused : call_refusal s d ≡ Some reason
  pub unchanged : after s d ≡ s
  pub not_out : length s.file ≡ s.book.layout.table.length → reason ≡ LoanNotOut

-- after whatever calls, with whatever file and shelves, every call on the loan of that number is turned down
abbrev pub HandedIn : ℕ → Book → Type 0
HandedIn n b = (xs : List LaterCall) (f : List ℕ) (k : Stock) (d : Request) → is_on n d ≡ true → RefusedAsNotOut (state_of (later_book b xs) f k) d

-- the same of a keep or cancel that was carried out
abbrev pub HandedWhere : ℕ → Result ℕ Refusal → Book → Type 0
HandedWhere n (Ok k) b = HandedIn n b
HandedWhere n (Err e) b = Unit {0}

-- the same of any call: a keep or cancel that was carried out hands its loan in
abbrev pub HandedBy : Request → Result ℕ Refusal → Book → Type 0
HandedBy (keep n) r b = HandedWhere n r b
HandedBy (cancel n) r b = HandedWhere n r b
HandedBy d r b = Unit {0}

-- Whose stroke lies over a byte, and how it is found without writing anything down.
use Rattle.std.specs.Prelude.{◌≡◌, ℕ, ◌+◌, ◌-◌, ◌*◌, ◌≤◌, Bool, false, cond, ◌&&◌, List, [], ◌∷◌, ◌++◌, map, length, take, drop, Some, None, Ok, Err, Option, Result, MatchOption, ◌<◌, ◌==◌, slice_index_or}
use Rattle.std.specs.List.{All}
use Rattle.refusal.specs.declared.Refusal.{Refusal}
use Rattle.dds.specs.declared.area.Area.{Area}
use Rattle.dds.specs.declared.layout.Layout.{Layout}
use Rattle.dds.specs.declared.piece.Piece.{Piece}
use Rattle.dds.specs.declared.table.Table.{Table}
use Rattle.dds.specs.Pieces.{piece_of}
use Rattle.dds.specs.Places.{exists_in, area_in, AreaOf}
use Rattle.loans.specs.declared.call.Call.{Call}
use Rattle.painters.specs.declared.Painter.{Painter}
use Rattle.loans.specs.Ledgers.{no_loan}
use Rattle.loans.specs.Stocks.{Stock}
use Rattle.loans.specs.Strokes.{Painting}
use Rattle.loans.specs.Rules.{Request, request_of, answers_to}
use Rattle.loans.specs.Rules.Request.{lend, paint, undo, keep, cancel}
use Rattle.loans.specs.Journals.{Event, Stroke, journal_of, lent, standing, reach_over, covers}
use Rattle.loans.specs.Law.{OfPiece}
use Rattle.loans.specs.Runs.{opened_state}

-- who laid the first of the strokes, the newest first, that lies over the byte at a place
abbrev pub newest_over : List Stroke → ℕ → Option Painter
newest_over [] i = None
newest_over (s ∷ ss) i =
    cond (covers s i) (Some (record { loan = s.painting.loan; borrower = s.painting.borrower })) (newest_over ss i)

-- who laid the newest stroke standing over the byte; no stroke's reach depends on the opening's bytes
abbrev pub NewestPainter : Table → List Request → List (Result ℕ Refusal) → ℕ → Option Painter → Type 0
NewestPainter t ds rs place r = (opening : List ℕ) → r ≡ newest_over (standing t opening (journal_of ds rs)) place

-- where a stroke begins: at its piece's place, row × row bytes, and first together
abbrev pub begin_of : Table → Stroke → ℕ
begin_of t s =
    (area_in t s.piece).place
    + (s.painting.row * (area_in t s.piece).row_bytes + s.painting.first)

-- the stroke lies over the byte at a place, by the numbers of its piece and its own
abbrev pub LiesOver : Table → Stroke → ℕ → Type 0
LiesOver t s place =
    (begin_of t s ≤ place) × (place < begin_of t s + length s.painting.laid)

-- of strokes, the newest first, the first that lies over the byte is that painter's
pub record NewestOver (y : Layout) (ss : List Stroke) (place : ℕ) (p : Painter) : Type 0 where
  pub newer : List Stroke
  pub stroke : Stroke
  pub older : List Stroke
  pub among : ss ≡ newer ++ stroke ∷ older
  pub loan : p.loan ≡ stroke.painting.loan
  pub borrower : p.borrower ≡ stroke.painting.borrower
  pub over : LiesOver y.table stroke place
  pub none_newer : All (λ s. LiesOver y.table s place → ⊥) newer
  -- the numbers of its piece are those of the list of pieces
  pub listed : AreaOf y stroke.piece (area_in y.table stroke.piece)

-- that painter laid the newest stroke over the byte; or none lies over it
abbrev pub PaintedBy : Layout → List Stroke → ℕ → Option Painter → Type 0
PaintedBy y ss place None = All (λ s. LiesOver y.table s place → ⊥) ss
PaintedBy y ss place (Some p) = NewestOver y ss place p

-- the answers are those to a run of the calls on a job just opened on a file, with two empty shelves
pub record IsRun (y : Layout) (number : ℕ) (file : List ℕ) (k : Stock) (ds : List Request) (rs : List (Result ℕ Refusal)) : Type 0 where
  pub length : length file ≡ y.table.length
  pub marks : k.marks ≡ []
  pub bytes : k.bytes ≡ []
  pub answers : rs ≡ answers_to (opened_state y number file k) ds

-- the painter that is told is that of the newest stroke standing over the byte
pub record Traced (y : Layout) (ds : List Request) (rs : List (Result ℕ Refusal)) (place : ℕ) (r : Option Painter) : Type 0 where
  -- after every run of calls on a job just opened, with two empty shelves
  pub run : (number : ℕ) (file : List ℕ) (k : Stock)
      → IsRun y number file k ds rs → NewestPainter y.table ds rs place r
  -- and there each stroke lies where its numbers say
  pub placed : (number : ℕ) (file : List ℕ) (k : Stock)
      → IsRun y number file k ds rs
      → PaintedBy y (standing y.table file (journal_of ds rs)) place r
  -- by whatever calls and answers, as long as every loan granted is of a piece that exists
  pub pieces : All (OfPiece y.table) (lent y.table (journal_of ds rs))
      → NewestPainter y.table ds rs place r

-- Read from the newest call to the oldest, an undo owes one stroke of its loan, which the next stroke of the loan pays; a cancel
-- takes back all of its loan's strokes before it. A stroke stands where nothing is owed.

-- a stroke of the loan pays one that is owed, if any
abbrev pub paid_off : Bool → Option ℕ → Option ℕ
paid_off b None = None
paid_off b (Some k) = Some (cond b (k - 1) k)

-- an undo of the loan owes one more
abbrev pub owing_more : Bool → Option ℕ → Option ℕ
owing_more b None = None
owing_more b (Some k) = Some (cond b (k + 1) k)

-- a stroke of the loan stands here: nothing is owed, and not all are taken back
abbrev pub owes_nothing : Option ℕ → Bool
owes_nothing None = false
owes_nothing (Some k) = k == 0

-- what a loan owes before a call, by what it owes after it; none where its strokes are all taken back
abbrev pub owed_before : ℕ → Option ℕ → Request → Result ℕ Refusal → Option ℕ
owed_before n o d (Err e) = o
owed_before n o (paint p) (Ok x) = paid_off (p.loan == n) o
owed_before n o (undo m who) (Ok x) = owing_more (m == n) o
owed_before n o (cancel m) (Ok x) = cond (m == n) None o
owed_before n o d (Ok x) = o

-- what a loan owes before calls
abbrev pub owed : ℕ → List Call → List (Result ℕ Refusal) → Option ℕ
owed n [] rs = Some 0
owed n (c ∷ cs) [] = Some 0
owed n (c ∷ cs) (r ∷ rs) = owed_before n (owed n cs rs) (request_of c) r

-- the piece that is out already, or else the one that is lent under the number; so of two in a made-up journal the first
abbrev pub unless_out : Option Piece → Bool → Piece → Option Piece
unless_out (Some q) b p = Some q
unless_out None b p = cond b (Some p) None

-- the piece of a loan that is out after a call, by that before it: it comes by its loan call, and goes by keep or cancel
abbrev pub piece_after : ℕ → Option Piece → Request → Result ℕ Refusal → Option Piece
piece_after n o d (Err e) = o
piece_after n o (lend p who) (Ok x) = unless_out o (n == x) p
piece_after n o (keep m) (Ok x) = cond (m == n) None o
piece_after n o (cancel m) (Ok x) = cond (m == n) None o
piece_after n o d (Ok x) = o

-- the piece of the loan of a number that is out after a journal
abbrev pub piece_out : ℕ → List Event → Option Piece
piece_out n [] = None
piece_out n (e ∷ h) = piece_after n (piece_out n h) e.call e.answer

-- the area of a piece; no bytes where none is named or none such exists
abbrev pub area_for : Table → Option Piece → Area
area_for t None = no_loan.area
area_for t (Some p) = cond (exists_in t p) (area_in t p) no_loan.area

-- a stroke laid in an area so lies over the byte at a place
abbrev pub lies_over : Area → Painting → ℕ → Bool
lies_over a p place = reach_over (a.place + (p.row * a.row_bytes + p.first)) (length p.laid) place

-- who painted by a call, where its stroke lies over the byte and stands
abbrev pub painter_by : Table → (ℕ → Option Piece) → (ℕ → Option ℕ) → ℕ → Request → Result ℕ Refusal → Option Painter
painter_by t pieces owes place d (Err e) = None
painter_by t pieces owes place (paint p) (Ok x) =
    cond (lies_over (area_for t (pieces p.loan)) p place && owes_nothing (owes p.loan))
    (Some (record { loan = p.loan; borrower = p.borrower })) None
painter_by t pieces owes place d (Ok x) = None

-- what is read where no call stands
abbrev pub no_call : Call
no_call = Call.Loan (piece_of 0 0 0) 0

-- what is read where no answer stands
abbrev pub no_answer : Result ℕ Refusal
no_answer = Ok 0

-- the calls before a position, written down
abbrev pub past_of : List Call → List (Result ℕ Refusal) → ℕ → List Event
past_of cs rs k = journal_of (map request_of (take k cs)) (take k rs)

-- the same of the call at a position
abbrev pub painter_at : Table → List Call → List (Result ℕ Refusal) → ℕ → ℕ → Option Painter
painter_at t cs rs k place =
    painter_by t (λ n. piece_out n (past_of cs rs k)) (λ n. owed n (drop (k + 1) cs) (drop (k + 1) rs)) place
    (request_of (slice_index_or cs k no_call)) (slice_index_or rs k no_answer)

-- of the calls below a position, the newest that painted so; or none did
abbrev pub IsNewest : Table → List Call → List (Result ℕ Refusal) → ℕ → ℕ → Option Painter → Type 0
IsNewest t cs rs place n r =
    MatchOption r
    ((k : ℕ) → k < n → painter_at t cs rs k place ≡ None)
    (λ p. (i : ℕ) × (i < n) × (painter_at t cs rs i place ≡ Some p) × ((k : ℕ) → i < k → k < n → painter_at t cs rs k place ≡ None))

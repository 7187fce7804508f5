-- What a run of calls answers and leaves, and the law over it.
use Rattle.std.specs.Prelude.{◌≡◌, ℕ, ◌+◌, ◌<◌, ◌≤◌, Bool, true, ◌&&◌, List, [], ◌++◌, length, take, Some, Ok, Err, Result, ◌==◌, codes}
use Rattle.refusal.specs.declared.Refusal.{Refusal}
use Rattle.refusal.specs.Meanings.{refusal_text}
use Rattle.dds.specs.declared.layout.Layout.{Layout}
use Rattle.dds.specs.declared.source.FormatSource.TheVariants.{HandedIn}
use Rattle.dds.specs.Readings.{reading_of}
use Rattle.dds.specs.Layouts.{Opened}
use Rattle.loans.specs.declared.docket.Docket.{Docket}
use Rattle.loans.specs.Dockets.{docket_number}
use Rattle.loans.specs.declared.job.Job.{Job}
use Rattle.loans.specs.declared.shelves.Shelves.{Shelves}
use Rattle.loans.specs.declared.run_fault.RunFault.{RunFault}
use Rattle.loans.specs.declared.run_fault.RunFault.TheVariants.{Refused, NoRoom}
use Rattle.loans.specs.Books.{fresh_book}
use Rattle.loans.specs.Stocks.{Stock, stock_of, SameRoom, are_own}
use Rattle.loans.specs.Strokes.{State, state_of}
use Rattle.loans.specs.Rules.{Request, answers_to, after_all}
use Rattle.loans.specs.Journals.{journal_of}
use Rattle.loans.specs.Law.{Law}

-- a job just opened on a file, with shelves
abbrev pub opened_state : Layout → ℕ → List ℕ → Stock → State
opened_state y number file k = record { book = fresh_book y (Some number); file = file; stock = k }

-- neither shelf holds anything
abbrev pub is_empty : Stock → Bool
is_empty k = length k.marks == 0 && length k.bytes == 0

-- where the shelves are known to be the job's all along a list of calls, they are
abbrev pub OwnAlong : Bool → State → List Request → Type 0
OwnAlong known s ds =
    known ≡ true → (i : ℕ) → are_own (after_all s (take i ds)).book (after_all s (take i ds)).stock ≡ true

-- a list of calls, one after the other; their answers stand behind those that were there
pub record AllDone (ds : List Request) (s : State) (old : List (Result ℕ Refusal)) (t : State) (new : List (Result ℕ Refusal)) : Type 0 where
  pub answers : new ≡ old ++ answers_to s ds
  pub state : t ≡ after_all s ds

-- what a run is made on: the file with the length and the two functions of the family by which it is opened, the number, the shelves,
-- the calls, the answers that stand in the Vec already, and how many the Vec can hold
pub record Ordered : Type 0 where
  pub file : List ℕ
  pub number : ℕ
  pub row_bytes : ℕ → ℕ → ℕ
  pub rows : ℕ → ℕ → ℕ
  pub shelves : Shelves
  pub calls : List Request
  pub old : List (Result ℕ Refusal)
  pub room : ℕ

-- such a run by its parts, in that order
abbrev pub ordered : List ℕ → ℕ → (ℕ → ℕ → ℕ) → (ℕ → ℕ → ℕ) → Shelves → List Request → List (Result ℕ Refusal) → ℕ → Ordered
ordered file number row_bytes rows shelves calls old room = record {
  file = file;
  number = number;
  row_bytes = row_bytes;
  rows = rows;
  shelves = shelves;
  calls = calls;
  old = old;
  room = room;
}

-- what opening the file answers
abbrev pub FileOpened : Ordered → Result Layout Refusal → Type 0
FileOpened o r = Opened (reading_of o.file) HandedIn o.row_bytes o.rows r

-- a run that was made: on any shelves each call went by its own rule, and they can hold as much as before; on two empty shelves the law
-- holds of the file, the job, the shelves, the calls and their answers
pub record RanSo (o : Ordered) (d : Docket) (t : State) (all : List (Result ℕ Refusal)) : Type 0 where
  pub layout : Layout
  pub opened : FileOpened o (Ok layout)
  pub docket : docket_number d ≡ o.number
  pub room : length o.old + length o.calls ≤ o.room
  pub given : List (Result ℕ Refusal)
  pub answers : all ≡ o.old ++ given
  pub each : length given ≡ length o.calls
  pub by_rules : given ≡ answers_to (opened_state layout o.number o.file (stock_of o.shelves)) o.calls
  pub state : t ≡ after_all (opened_state layout o.number o.file (stock_of o.shelves)) o.calls
  pub same_room : SameRoom (stock_of o.shelves) t.stock
  pub law : o.shelves.marks.items ≡ [] → o.shelves.bytes.items ≡ []
      → Law layout o.number o.shelves.marks.most o.shelves.bytes.most o.file (journal_of o.calls given) t

-- a fault as text
abbrev pub fault_text : RunFault → List ℕ
fault_text (Refused e) = refusal_text e
fault_text NoRoom = codes "no room for the answers"

-- job, file, shelves and answers are what they were
abbrev pub Untouched : Ordered → Job → Job → List ℕ → Shelves → List (Result ℕ Refusal) → Type 0
Untouched o j j' f' v' new = (j' ≡ j) × (f' ≡ o.file) × (v' ≡ o.shelves) × (new ≡ o.old)

-- a run that was made; or nothing changed, where the file is refused, whatever room there is, or where the file opens and the Vec cannot
-- hold one answer a call behind what stands in it
abbrev pub Ran : Ordered → Job → Result Docket RunFault → Job → List ℕ → Shelves → List (Result ℕ Refusal) → Type 0
Ran o j (Ok d) j' f' v' new = RanSo o d (state_of j' f' (stock_of v')) new
Ran o j (Err (Refused e)) j' f' v' new = FileOpened o (Err e) × Untouched o j j' f' v' new
Ran o j (Err NoRoom) j' f' v' new =
    ((y : Layout) × FileOpened o (Ok y)) × (o.room < length o.old + length o.calls) × Untouched o j j' f' v' new

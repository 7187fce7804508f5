-- What each call promises: its answer, and job, file and shelves after it.
use Rattle.std.specs.Prelude.{◌≡◌, ℕ, List, Some, None, Ok, Err, Result}
use Rattle.refusal.specs.declared.Refusal.{Refusal}
use Rattle.loans.specs.declared.job.Job.{Job}
use Rattle.loans.specs.declared.shelves.Shelves.{Shelves}
use Rattle.loans.specs.Stocks.{stock_of}
use Rattle.loans.specs.Strokes.{State, state_of}
use Rattle.loans.specs.Rules.{Request, call_refusal, carried_out, number_for}

-- a call that is carried out: no refusal applies, and answer and state are the rule's
pub record Carried (d : Request) (s : State) (n : ℕ) (t : State) : Type 0 where
  pub none : call_refusal s d ≡ None
  pub answer : n ≡ number_for (carried_out s d) d
  pub state : t ≡ carried_out s d

-- a call on a job, its file and its shelves; a refusal changes nothing
abbrev pub Called : Request → Job → List ℕ → Shelves → Result ℕ Refusal → Job → List ℕ → Shelves → Type 0
Called d j f v (Ok n) j' f' v' = Carried d (state_of j f (stock_of v)) n (state_of j' f' (stock_of v'))
Called d j f v (Err e) j' f' v' = (call_refusal (state_of j f (stock_of v)) d ≡ Some e) × (j' ≡ j) × (f' ≡ f) × (v' ≡ v)

-- a call that asks nothing of the file, and leaves any file alone
abbrev pub CalledOnAny : Request → Job → Shelves → Result ℕ Refusal → Job → Shelves → Type 0
CalledOnAny d j v r j' v' = (f : List ℕ) → Called d j f v r j' f v'

-- a call that asks nothing of file and shelves, and leaves any alone
abbrev pub CalledAlone : Request → Job → Result ℕ Refusal → Job → Type 0
CalledAlone d j r j' = (f : List ℕ) (v : Shelves) → Called d j f v r j' f v

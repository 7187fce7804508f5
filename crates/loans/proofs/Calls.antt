-- Lists of calls, one after the other.
use Rattle.std.proofs.Common.{◌≡◌, suc, List, [], ◌∷◌, ◌++◌, length, refl, ap}
use Rattle.loans.specs.Strokes.{State}
use Rattle.loans.specs.Rules.{Request, answer_to, after, answers_to, after_all}
use Rattle.loans.specs.Journals.{Event, written_down}

-- calls after calls
pub after_all_append : (s : State) (ds more : List Request) → after_all s (ds ++ more) ≡ after_all (after_all s ds) more
after_all_append s [] more = refl
after_all_append s (d ∷ ds) more = after_all_append (after s d) ds more

pub answers_to_append : (s : State) (ds more : List Request) → answers_to s (ds ++ more) ≡ answers_to s ds ++ answers_to (after_all s ds) more
answers_to_append s [] more = refl
answers_to_append s (d ∷ ds) more = ap (λ rs. answer_to s d ∷ rs) (answers_to_append (after s d) ds more)

pub answers_to_length : (s : State) (ds : List Request) → length (answers_to s ds) ≡ length ds
answers_to_length s [] = refl
answers_to_length s (d ∷ ds) = ap (λ n. suc n) (answers_to_length (after s d) ds)

-- one call more, as a loop over them makes it
pub after_all_push : (s : State) (ds : List Request) (d : Request) → after_all s (ds ++ d ∷ []) ≡ after (after_all s ds) d
after_all_push s ds d = after_all_append s ds (d ∷ [])

pub answers_to_push : (s : State) (ds : List Request) (d : Request) → answers_to s (ds ++ d ∷ []) ≡ answers_to s ds ++ answer_to (after_all s ds) d ∷ []
answers_to_push s ds d = answers_to_append s ds (d ∷ [])

-- the journal of calls after calls
pub written_down_append : (h : List Event) (s : State) (ds more : List Request)
    → written_down h (ds ++ more) (answers_to s (ds ++ more)) ≡ written_down (written_down h ds (answers_to s ds)) more (answers_to (after_all s ds) more)
written_down_append h s [] more = refl
written_down_append h s (d ∷ ds) more = written_down_append (record { call = d; answer = answer_to s d } ∷ h) (after s d) ds more

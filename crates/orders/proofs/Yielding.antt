-- What an iterator gave, where all that it can give is known.
use Rattle.std.proofs.Common.{◌≡◌, ◌<◌, List, map, length, Some, None, Option, Ok, Err, Result, refl, sym, subst}
use Rattle.std.specs.Prelude.{MatchResult, OnErr}
use Rattle.std.proofs.lemmas.Iterator.{YieldsList, items_from_drains}
use Rattle.std.proofs.lemmas.Iterator.Consumers.{nth_from_yields_List}
use Rattle.std.proofs.lemmas.Option.{slice_get_within}
use Rattle.std.specs.Result.{result_ok}
use Rattle.std.specs.Iterator.{YieldsThen, Drains}

module _ {S A B : Type 0} (steps : S → Option A → S → Type 0) (v : A → B) where
  pub drained : (xs : List A) (s t : S) (ys : List B) → s ≡ t → Drains steps s xs → YieldsList steps v t ys → map v xs ≡ ys
  drained xs s t ys e d all = items_from_drains xs (d.1.0, d.1.1, λ _. (d.0, d.1.2)) (subst (λ (u : S). YieldsList steps v u ys) (sym e) all)

  -- where one more came, there are more
  pub more_than : (xs : List A) (x : A) (u s t : S) (ys : List B) → s ≡ t → YieldsThen steps s xs (Some x) u → YieldsList steps v t ys → length xs < length ys
  more_than xs x u s t ys e d all =
      slice_get_within ys (length xs) (v x) (sym (nth_from_yields_List (Some x) u (length xs) (xs, d, refl) (subst (λ (u : S). YieldsList steps v u ys) (sym e) all)))

-- what a result says where it is known which it is
pub said_ok : {A E : Type 0} (P : A → Type 0) (Q : E → Type 0) (r : Result A E) (x : A) → MatchResult r P Q → result_ok r ≡ Some x → P x
said_ok P Q (Ok y) x m e = subst P (let same : y ≡ x = cc in same) m
said_ok P Q (Err y) x m e = absurd cc

pub said_err : {A E : Type 0} (P : Type 0) (r : Result A E) → OnErr r P → result_ok r ≡ None → P
said_err P (Ok y) m e = absurd cc
said_err P (Err x) m e = m

-- A line with too few or too many words tells no order.
use Rattle.std.proofs.Common.{◌≡◌, ℕ, List, [], ◌∷◌, length, None, ◌≢◌, refl}
use Rattle.orders.specs.steps.Reading.{loan_at, paint_at}

pub no_loan : (ws : List (List ℕ)) → length ws ≢ 2 → length ws ≢ 4 → None ≡ loan_at ws
no_loan [] a b = refl
no_loan (w ∷ []) a b = refl
no_loan (w ∷ x ∷ []) a b = absurd (a refl)
no_loan (w ∷ x ∷ y ∷ []) a b = refl
no_loan (w ∷ x ∷ y ∷ z ∷ []) a b = absurd (b refl)
no_loan (w ∷ x ∷ y ∷ z ∷ u ∷ ws) a b = refl

pub no_paint : (ws : List (List ℕ)) → length ws ≢ 5 → None ≡ paint_at ws
no_paint [] a = refl
no_paint (w ∷ []) a = refl
no_paint (w ∷ x ∷ []) a = refl
no_paint (w ∷ x ∷ y ∷ []) a = refl
no_paint (w ∷ x ∷ y ∷ z ∷ []) a = refl
no_paint (w ∷ x ∷ y ∷ z ∷ u ∷ []) a = absurd (a refl)
no_paint (w ∷ x ∷ y ∷ z ∷ u ∷ v ∷ ws) a = refl

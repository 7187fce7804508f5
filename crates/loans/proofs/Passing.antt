-- Refusals looked at one after the other.
use Rattle.std.proofs.Common.{◌≡◌, ℕ, Bool, true, false, cond, Some, None, Option, refl, arith}
use Rattle.refusal.specs.declared.Refusal.{Refusal}

-- a refusal that did not apply
pub passed : (b : Bool) (e : Refusal) (x : Option Refusal) → cond b (Some e) x ≡ None → (b ≡ false) × (x ≡ None)
passed true e x h = let z : ◌≡◌ {A = ℕ} 0 1 = cc in absurd (omega arith)
passed false e x h = (refl, h)

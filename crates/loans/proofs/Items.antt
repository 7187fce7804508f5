-- The elements of a shelf that is the same as another.
use Rattle.std.proofs.Common.{◌≡◌, ap}
use Rattle.shelf.specs.Held.{Held}

pub same_items : {X : Type 0} {s t : Held X} → s ≡ t → s.items ≡ t.items
same_items e = ap (λ (h : Held _). h.items) e

-- An order that a line tells has no more digits than the line.
use Rattle.std.proofs.Common.{◌≡◌, ℕ, ◌≤◌, List, [], ◌∷◌, ◌++◌, map, length, ap, arith, length-append}
use Rattle.std.specs.Prelude.{decimal}
use Rattle.std.specs.List.{join_with_byte, flat_map}
use Rattle.loans.specs.Strokes.{Painting, painting_on}
use Rattle.orders.specs.declared.order.Order.{Order}
use Rattle.orders.specs.declared.order.Order.TheVariants.{Loan, LoanElement, Paint, Undo, Keep, Cancel}
use Rattle.orders.specs.Spelling.{letter, numbers, hex_pair, spelling}
use Rattle.orders.specs.Spelling.Instruction.{paint}
use Rattle.orders.specs.Words.{hex_bytes}
use Rattle.orders.specs.Orders.{instruction_of}
use Rattle.orders.specs.Orders.{HasShortDigits}
use Rattle.orders.proofs.Hex.{pairs_again}

-- a line's last word is no longer than the line
last_within : (ws : List (List ℕ)) (w : List ℕ) → length w ≤ length (join_with_byte 32 (ws ++ w ∷ []))
last_within [] w = omega arith
last_within (x ∷ []) w = omega (arith, length-append x (32 ∷ w))
last_within (x ∷ y ∷ ws) w = omega (arith, last_within (y ∷ ws) w, length-append x (32 ∷ join_with_byte 32 (y ∷ ws ++ w ∷ [])))

-- the digits of an order that a line tells are no longer than the line
pub order_fits : (line : List ℕ) (o : Order) → line ≡ spelling (instruction_of o) → length line ≤ 16384 → HasShortDigits o
order_fits line (Loan p who) e h = tt
order_fits line (LoanElement x who) e h = tt
order_fits line (Paint n who r f ds) e h =
    let p : Painting = painting_on n who r f (hex_bytes ds.digits.now) in
    omega (arith, h, ap length e, ap length (pairs_again ds.digits.now ds.pairs), last_within ((letter (paint p) ∷ []) ∷ map decimal (numbers (paint p))) (flat_map hex_pair p.laid))
order_fits line (Undo n who) e h = tt
order_fits line (Keep n) e h = tt
order_fits line (Cancel n) e h = tt

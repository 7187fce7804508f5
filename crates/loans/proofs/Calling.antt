-- One call after the other, and their answers.
use Rattle.std.proofs.Common.{◌≡◌, ℕ, ◌+◌, ◌-◌, ◌<◌, ◌≤◌, Bool, true, List, [], ◌∷◌, ◌++◌, map, length, get_or, take, Ok, Err, Option, Result, sym, ap, ◌∙◌, subst, ap₂, append_assoc, arith, take_all}
use Rattle.std.proofs.lemmas.List.{take_more, take-map, map_push}
use Rattle.refusal.specs.declared.Refusal.{Refusal}
use Rattle.loans.specs.declared.call.Call.{Call}
use Rattle.loans.specs.Books.{Book}
use Rattle.loans.specs.Stocks.{ShelfPair, stock_of, are_own}
use Rattle.loans.specs.Strokes.{State, state_of}
use Rattle.loans.specs.Rules.{Request, request_of, carried_out, number_for, refusal_or, left, answer_to, after, answers_to, after_all}
use Rattle.loans.specs.Calls.{Called}
use Rattle.loans.specs.Runs.{OwnAlong, AllDone}
use Rattle.loans.proofs.Calls.{after_all_push, answers_to_push}

-- a call that keeps its promise answers and leaves what the rules say
pub called_answer : (d : Request) (j j' : Book) (f f' : List ℕ) (v v' : ShelfPair) (r : Result ℕ Refusal) → Called d j f v r j' f' v'
    → r ≡ answer_to (state_of j f (stock_of v)) d
called_answer d j j' f f' v v' (Ok n) c =
    sym (ap₂ (λ (e : Option Refusal) (k : ℕ). refusal_or e k) c.none (sym c.answer))
called_answer d j j' f f' v v' (Err e) c = sym (ap (λ (x : Option Refusal). refusal_or x (number_for (carried_out (state_of j f (stock_of v)) d) d)) c.0)

pub called_state : (d : Request) (j j' : Book) (f f' : List ℕ) (v v' : ShelfPair) (r : Result ℕ Refusal) → Called d j f v r j' f' v'
    → state_of j' f' (stock_of v') ≡ after (state_of j f (stock_of v)) d
called_state d j j' f f' v v' (Ok n) c =
    c.state ∙ sym (ap (λ (x : Option Refusal). left x (state_of j f (stock_of v)) (carried_out (state_of j f (stock_of v)) d)) c.none)
called_state d j j' f f' v v' (Err e) c =
    (λ i. state_of (c.1 i) (c.2 i) (stock_of (c.3 i))) ∙ sym (ap (λ (x : Option Refusal). left x (state_of j f (stock_of v)) (carried_out (state_of j f (stock_of v)) d)) c.0)

-- after the first i calls
pub record Along (s₀ s : State) (cs : List Call) (i : ℕ) (old items : List (Result ℕ Refusal)) (len cap : ℕ) : Type 0 where
  pub state : s ≡ after_all s₀ (map request_of (take i cs))
  pub answers : items ≡ old ++ answers_to s₀ (map request_of (take i cs))
  pub room : len + (length cs - i) ≤ cap

module _ {s₀ s : State} {cs : List Call} {i : ℕ} {old items : List (Result ℕ Refusal)} {len cap : ℕ} (a : Along s₀ s cs i old items len cap) where
  pub along_own : (known : Bool) → OwnAlong known s₀ (map request_of cs) → known ≡ true → are_own s.book s.stock ≡ true
  along_own known own_shelves e =
      subst (λ (x : State). are_own x.book x.stock ≡ true) (ap (after_all s₀) (take-map request_of i cs) ∙ sym a.state) (own_shelves e i)

  pub along_all : length cs ≤ i → AllDone (map request_of cs) s₀ old s items
  along_all h =
      let all = take_all i cs h in
      record {
        answers = a.answers ∙ ap (λ (xs : List Call). old ++ answers_to s₀ (map request_of xs)) all;
        state = a.state ∙ ap (λ (xs : List Call). after_all s₀ (map request_of xs)) all;
      }

  pub along_one : i < length cs → (d : Call) (t : State) (answer : Result ℕ Refusal) (items' : List (Result ℕ Refusal)) (len' cap' : ℕ)
      → answer ≡ answer_to s (request_of (get_or cs i d)) → t ≡ after s (request_of (get_or cs i d)) → items' ≡ items ++ answer ∷ []
      → len' ≡ len + 1 → cap' ≡ cap → Along s₀ t cs (i + 1) old items' len' cap'
  along_one h d t answer items' len' cap' answers state pushed longer same =
      let before : List Request = map request_of (take i cs) in
      let one : map request_of (take (i + 1) cs) ≡ before ++ request_of (get_or cs i d) ∷ [] = ap (map request_of) (take_more cs i d h) ∙ map_push request_of (take i cs) (get_or cs i d) in
      let answer-is : answer ≡ answer_to (after_all s₀ before) (request_of (get_or cs i d)) = answers ∙ ap (λ (x : State). answer_to x (request_of (get_or cs i d))) a.state in
      record {
        state =
            state ∙ ap (λ (x : State). after x (request_of (get_or cs i d))) a.state
            ∙ sym (ap (after_all s₀) one ∙ after_all_push s₀ before (request_of (get_or cs i d)));
        answers =
            pushed ∙ ap₂ (λ (xs : List (Result ℕ Refusal)) (x : Result ℕ Refusal). xs ++ x ∷ []) a.answers answer-is
            ∙ append_assoc old (answers_to s₀ before) (answer_to (after_all s₀ before) (request_of (get_or cs i d)) ∷ [])
            ∙ sym (ap (λ (ds : List Request). old ++ answers_to s₀ ds) one ∙ ap (λ (xs : List (Result ℕ Refusal)). old ++ xs) (answers_to_push s₀ before (request_of (get_or cs i d))));
        room = omega (arith, a.room, longer, same);
      }

-- What a run leaves, and that the law holds of it.
use Rattle.std.proofs.Common.{◌≡◌, ℕ, ◌+◌, ◌≤◌, Bool, true, eqb, List, [], ◌++◌, length, take, Some, Ok, Result, sym, refl, ap, ◌∙◌, subst, ap₂}
use Rattle.std.proofs.lemmas.List.{nil_from_length}
use Rattle.std.proofs.lemmas.Bool.{and_parts, eqb-true}
use Rattle.refusal.specs.declared.Refusal.{Refusal}
use Rattle.dds.specs.declared.layout.Layout.{Layout}
use Rattle.loans.specs.declared.docket.Docket.{Docket}
use Rattle.loans.specs.Books.{Book, fresh_book}
use Rattle.loans.specs.Stocks.{Stock, stock_of, SameRoom, are_own}
use Rattle.loans.specs.Strokes.{State, state_of}
use Rattle.loans.specs.Rules.{answers_to, after_all}
use Rattle.loans.specs.Journals.{journal_of}
use Rattle.loans.specs.Law.{Law}
use Rattle.loans.specs.Runs.{opened_state, is_empty, OwnAlong, AllDone, Ordered, FileOpened, RanSo}
use Rattle.loans.proofs.Calls.{answers_to_length}
use Rattle.loans.proofs.Limits.{same_after_all}
use Rattle.loans.proofs.Runs.{law_run, own_run}

module _ (o : Ordered) (t : Book) (y : Layout) (opened : FileOpened o (Ok y)) (book : t ≡ fresh_book y (Some o.number)) where
  abbrev first : State
  first = opened_state y o.number o.file (stock_of o.shelves)

  first_is : state_of t o.file (stock_of o.shelves) ≡ first
  first_is = λ i. record { book = book i; file = o.file; stock = stock_of o.shelves }

  sized : length o.file ≡ y.table.length
  sized = sym opened.table.length

  -- shelves that are empty at first are the job's all along
  pub opened_along : (known : Bool) → known ≡ is_empty (stock_of o.shelves) → OwnAlong known (state_of t o.file (stock_of o.shelves)) o.calls
  opened_along known is e i =
      let k : Stock = stock_of o.shelves in
      let both = and_parts (eqb (length k.marks) 0) (eqb (length k.bytes) 0) (sym is ∙ e) in
      let marks : k.marks ≡ [] = nil_from_length k.marks (eqb-true _ _ both.0) in
      let bytes : k.bytes ≡ [] = nil_from_length k.bytes (eqb-true _ _ both.1) in
      subst (λ (s : State). are_own (after_all s (take i o.calls)).book (after_all s (take i o.calls)).stock ≡ true) (sym first_is)
      (own_run y o.number o.file k (take i o.calls) sized marks bytes).0

  pub run_made : (d : Docket) → d.0 ≡ o.number → length o.old + length o.calls ≤ o.room → (u : State) (old new : List (Result ℕ Refusal)) → old ≡ o.old
      → AllDone o.calls (state_of t o.file (stock_of o.shelves)) old u new → RanSo o d u new
  run_made d docket room u old new same done =
      let is : u ≡ after_all first o.calls = done.state ∙ ap (λ (s : State). after_all s o.calls) first_is in
      record {
        layout = y;
        opened = opened;
        docket = docket;
        room = room;
        given = answers_to first o.calls;
        answers = done.answers ∙ ap₂ (λ (xs : List (Result ℕ Refusal)) (s : State). xs ++ answers_to s o.calls) same first_is;
        each = answers_to_length first o.calls;
        by_rules = refl;
        state = is;
        same_room = subst (λ (s : State). SameRoom (stock_of o.shelves) s.stock) (sym is) (same_after_all first o.calls);
        law = λ marks bytes. subst (Law y o.number o.shelves.marks.most o.shelves.bytes.most o.file (journal_of o.calls (answers_to first o.calls))) (sym is)
            (law_run y o.number o.file (stock_of o.shelves) o.calls sized marks bytes);
      }

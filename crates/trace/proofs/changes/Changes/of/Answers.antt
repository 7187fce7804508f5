use Rattle.std.proofs.Common.{◌≡◌, ◌-◌, max, length, subst, arith}
use Rattle.trace.specs.Changes.{is_changed, AreChanges, runs_of}
use Rattle.trace.proofs.Changed.{changes_law}
use Rattle.trace.proofs.changes.Changes.of.Goals as goal

pub returns : goal.returns
returns c =
    let before = c.args.before.now in
    let after = c.args.after.now in
    let all : max (length before) (length after) ≡ max (length before) (length after) - 0 = omega arith in
    subst (λ n. AreChanges before after (runs_of (is_changed before after) 0 n)) all (changes_law before after)

use Rattle.std.proofs.Common.{◌≡◌, None, refl, rules}
use Rattle.std.proofs.lemmas.Fn.{fold_over}
use Rattle.std.proofs.lemmas.Iterator.{YieldsList-from_slice, YieldsList-from_zip, YieldsList-from_take, zips}
use Rattle.std.proofs.iter.Yields.{fronts}
use Rattle.std.specs.Iterator.Adapters.{take_steps}
use Rattle.painters.proofs.Painters.{folded, folded_more, piece_folded}
use Rattle.painters.proofs.Journal.piece_before.Goals as goal

pub returns : goal.returns
returns c =
    piece_folded c.args.loan c.args.position c.args.self.now.calls.now c.args.self.now.answers.now c.fold.result
    (fold_over (take_steps (zips fronts fronts)) (λ p. (p.0.now, p.1.now)) _ (λ ys o. o ≡ folded c.args.loan ys) _ (λ ys a x b f' e called. (folded_more c.args.loan ys a x.0.now x.1.now b e (search rules), search rules)) c.take.result _ None c.fold.result
    (YieldsList-from_take {s = c.take.result} c.args.position (YieldsList-from_zip (YieldsList-from_slice c.args.self.now.calls.now cc) (YieldsList-from_slice c.args.self.now.answers.now cc)) cc).runs
    refl c.fold.ensures.ran)

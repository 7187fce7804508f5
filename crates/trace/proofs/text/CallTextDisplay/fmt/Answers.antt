use Rattle.std.proofs.Common.{sym, subst}
use Rattle.std.specs.Fmt.{HasWritten}
use Rattle.loans.specs.declared.call.Call.{Call}
use Rattle.loans.specs.Rules.{request_of}
use Rattle.trace.specs.Texts.{call_text}
use Rattle.trace.proofs.text.CallTextDisplay.fmt.Goals as goal

pub returns-in-Undo-clause-writes : goal.returns-in-Undo-clause-writes
returns-in-Undo-clause-writes g c = λ plain ok.
    subst (λ (call : Call). HasWritten g.W.Write.write_str_gives c.args.f.now (call_text (request_of call)) c.write-in-Undo.new.self) (sym c.in-Undo.is) (c.write-in-Undo.ensures.writes plain ok)

-- What shipping a job answers and leaves.
use Rattle.std.specs.Prelude.{◌≡◌, ℕ, Bool, false, cond, not, length, Some, None, Ok, Err, Option, Result, ◌==◌, nat_lt}
use Rattle.refusal.specs.declared.Refusal.{Refusal}
use Rattle.refusal.specs.declared.Refusal.TheVariants.{OtherDocket, LoansOut}
use Rattle.loans.specs.declared.docket.Docket.{Docket}
use Rattle.loans.specs.Dockets.{docket_number}
use Rattle.loans.specs.declared.job.Job.{Job}
use Rattle.loans.specs.declared.report.Report.{Report}
use Rattle.loans.specs.declared.unspent.Unspent.{Unspent}
use Rattle.loans.specs.Books.{Book, IsEmpty, report_of}

-- the job has that number; an empty job has none
abbrev pub is_job_number : Option ℕ → ℕ → Bool
is_job_number None n = false
is_job_number (Some m) n = m == n

-- the first refusal that applies: a docket of another number, loans out
abbrev pub ship_refusal : Book → ℕ → Option Refusal
ship_refusal b n =
    cond (not (is_job_number b.number n)) (Some OtherDocket)
    (cond (nat_lt 0 (length b.outs)) (Some LoansOut) None)

-- the job is emptied and its report answered; a refusal hands the docket back
abbrev pub Shipped : Docket → Job → Result Report Unspent → Job → Type 0
Shipped d s (Ok report) t =
    (ship_refusal s (docket_number d) ≡ None) × (report ≡ report_of s) × IsEmpty t
Shipped d s (Err u) t =
    (ship_refusal s (docket_number d) ≡ Some u.refusal)
    × (docket_number u.docket ≡ docket_number d) × (t ≡ s)

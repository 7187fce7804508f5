-- What scrapping a job answers and leaves.
use Rattle.std.specs.Prelude.{◌≡◌, ℕ, true, List, length, Some, None, Ok, Err, Result}
use Rattle.refusal.specs.declared.Refusal.{Refusal}
use Rattle.loans.specs.declared.docket.Docket.{Docket}
use Rattle.loans.specs.Dockets.{docket_number}
use Rattle.loans.specs.declared.job.Job.{Job}
use Rattle.loans.specs.declared.report.Report.{Report}
use Rattle.loans.specs.declared.shelves.Shelves.{Shelves}
use Rattle.loans.specs.Books.{IsEmpty, report_of}
use Rattle.loans.specs.Stocks.{stock_of, are_own}
use Rattle.loans.specs.Strokes.{State, state_of}
use Rattle.loans.specs.LoanEnds.{scrap_refusal, all_cancelled}

-- the file has the job's length, and the shelves are the job's
pub record WithOwn (s : State) : Type 0 where
  pub sized : length s.file ≡ s.book.layout.table.length
  pub own_shelves : are_own s.book s.stock ≡ true

-- every loan out is cancelled: the report, file and shelves are those after the cancels, and the job is emptied
pub record ScrappedSo (d : Docket) (s : State) (report : Report) (t : State) : Type 0 where
  pub none : scrap_refusal s (docket_number d) ≡ None
  pub answer : report ≡ report_of (all_cancelled s.book.outs s).book
  pub job : IsEmpty t.book
  pub file : t.file ≡ (all_cancelled s.book.outs s).file
  pub shelves : t.stock ≡ (all_cancelled s.book.outs s).stock

-- a refusal takes only the docket
abbrev pub Scrapped : Docket → Job → List ℕ → Shelves → Result Report Refusal → Job → List ℕ → Shelves → Type 0
Scrapped d j f v (Ok report) j' f' v' = ScrappedSo d (state_of j f (stock_of v)) report (state_of j' f' (stock_of v'))
Scrapped d j f v (Err e) j' f' v' = (scrap_refusal (state_of j f (stock_of v)) (docket_number d) ≡ Some e) × (j' ≡ j) × (f' ≡ f) × (v' ≡ v)

-- What opening a job answers and leaves.
use Rattle.std.specs.Prelude.{◌≡◌, ℕ, List, Some, Ok, Err, Option, Result}
use Rattle.refusal.specs.declared.Refusal.{Refusal}
use Rattle.formats.specs.declared.format_name.FormatName.{FormatName}
use Rattle.dds.specs.declared.layout.Layout.{Layout}
use Rattle.dds.specs.declared.source.FormatSource.TheVariants.{HandedIn}
use Rattle.dds.specs.Readings.{reading_of}
use Rattle.dds.specs.Layouts.{Opened, OpenedBy}
use Rattle.loans.specs.declared.docket.Docket.{Docket}
use Rattle.loans.specs.Dockets.{docket_number}
use Rattle.loans.specs.declared.job.Job.{Job}
use Rattle.loans.specs.Books.{fresh_book}

-- how a job is opened on a file that is read so: the place holds the file's layout and no loans, whatever it held, and the docket carries
-- the number; a refused open leaves the place as it was
abbrev pub JobOpened : (Result Layout Refusal → Type 0) → ℕ → Job → Result Docket Refusal → Job → Type 0
JobOpened reads number s (Ok d) t =
    (docket_number d ≡ number) × reads (Ok t.layout) × (t ≡ fresh_book t.layout (Some number))
JobOpened reads number s (Err e) t = reads (Err e) × (t ≡ s)

-- with a family that is handed in
abbrev pub OpenedWith : List ℕ → ℕ → (ℕ → ℕ → ℕ) → (ℕ → ℕ → ℕ) → Job → Result Docket Refusal → Job → Type 0
OpenedWith file number row_bytes rows s r t = JobOpened (Opened (reading_of file) HandedIn row_bytes rows) number s r t

-- with a table of the codes other than DX10
abbrev pub OpenedWithCodes : List ℕ → ℕ → (ℕ → Option FormatName) → Job → Result Docket Refusal → Job → Type 0
OpenedWithCodes file number names s r t = JobOpened (OpenedBy (reading_of file) names) number s r t

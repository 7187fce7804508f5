-- From the steps of opening a file to what opening answers.
use Rattle.std.proofs.Common.{◌≡◌, ℕ, ◌≤◌, List, Some, None, Ok, Err, Option, Result, refl, sym, ap, ◌∙◌, subst, subst₂, arith}
use Rattle.std.proofs.lemmas.Bool.Decides.{nat_tests}
use Rattle.refusal.specs.declared.Refusal.{Refusal}
use Rattle.refusal.specs.declared.Refusal.TheVariants.{WrongEnd}
use Rattle.dds.specs.declared.header.Header.{Header}
use Rattle.dds.specs.declared.layout.Layout.{Layout}
use Rattle.dds.specs.declared.shape.Shape.{Shape}
use Rattle.dds.specs.declared.source.FormatSource.{FormatSource}
use Rattle.dds.specs.Readings.{Reading}
use Rattle.dds.specs.Headers.{header_of, header_read}
use Rattle.dds.specs.Shapes.{shape_of, shape_read}
use Rattle.dds.specs.Plans.{plan_of}
use Rattle.dds.specs.Pieces.{Placed, FitsPlan}
use Rattle.dds.specs.Layouts.{Fits, Opened, Turned, origin_of, refusal_of, err_of, first_refusal, pieces_in, TableOf}
use Rattle.dds.proofs.Fitting.{fits_only}
use Rattle.dds.proofs.Shaped.{shape_is}

-- a header that was not refused is the one that stands in the head, and the file is short enough
pub header_is : (x : Reading) (h : Header) → header_read x ≡ Ok h → (h ≡ header_of x.head) × (x.length ≤ 1073741824)
header_is x h e = grind (arith, nat_tests)

-- a header with a shape was laid out: its pieces end at the file's end, and the layout has them; or none fit
abbrev pub Outcome : Header → Shape → FormatSource → (ℕ → ℕ → ℕ) → (ℕ → ℕ → ℕ) → ℕ → Result Layout Refusal → Type 0
Outcome h shape source row_bytes rows n (Ok layout) =
    FitsPlan (plan_of h shape row_bytes rows) n (pieces_in layout) × TableOf h shape row_bytes rows n layout.table
    × (layout.origin ≡ Some (origin_of h shape source))
Outcome h shape source row_bytes rows n (Err e) =
    (e ≡ WrongEnd) × ((ps : List Placed) → FitsPlan (plan_of h shape row_bytes rows) n ps → ⊥)

module _ (x : Reading) (row_bytes rows : ℕ → ℕ → ℕ) (h : Header) (shape : Shape) (e : header_read x ≡ Ok h) (f : shape_read h ≡ Ok shape) where
  pub free : refusal_of x ≡ None
  free = ap first_refusal e ∙ ap err_of f

  here : header_of x.head ≡ h
  here = sym (header_is x h e).0

  has_shape : shape_of (header_of x.head) ≡ Some shape
  has_shape = ap shape_of here ∙ shape_is h shape f

  -- a list that fits the header fits its plan, since a header has one shape
  pub fits_plan : (ps : List Placed) → Fits x row_bytes rows ps → FitsPlan (plan_of h shape row_bytes rows) x.length ps
  fits_plan ps q =
      let a = q.has in
      let b = has_shape in
      let same : q.shape ≡ shape = cc in
      subst (λ (y : Header). FitsPlan (plan_of y shape row_bytes rows) x.length ps) here
      (subst₂ (λ (y : Shape) (m : ℕ). FitsPlan (plan_of (header_of x.head) y row_bytes rows) m ps) same q.ends q.fits)

  pub plan_fits : (ps : List Placed) → FitsPlan (plan_of h shape row_bytes rows) x.length ps → Fits x row_bytes rows ps
  plan_fits ps q = record {
    shape = shape;
    has = has_shape;
    end = x.length;
    ends = refl;
    fits = subst (λ (y : Header). FitsPlan (plan_of y shape row_bytes rows) x.length ps) (sym here) q;
  }

  pub opened : (source : FormatSource) (r : Result Layout Refusal) → Outcome h shape source row_bytes rows x.length r
      → Opened x source row_bytes rows r
  opened source (Ok layout) l = record {
    free = free;
    fits = plan_fits (pieces_in layout) l.0;
    alone = λ ps q.
        (fits_only (plan_of h shape row_bytes rows) x.length ps (fits_plan ps q)).0
        ∙ sym (fits_only (plan_of h shape row_bytes rows) x.length (pieces_in layout) l.0).0;
    shape = shape;
    has = has_shape;
    table = subst (λ (y : Header). TableOf y shape row_bytes rows x.length layout.table) (sym here) l.1;
    origin = l.2 ∙ ap (λ (y : Header). Some (origin_of y shape source)) (sym here);
  }
  opened source (Err d) l =
      subst (λ (o : Option Refusal). Turned o d ((ps : List Placed) → Fits x row_bytes rows ps → ⊥)) (sym free)
      (l.0, λ ps q. l.1 ps (fits_plan ps q))

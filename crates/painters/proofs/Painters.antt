-- Which strokes stand, read from the newest call to the oldest.
use Rattle.std.proofs.Common.{◌≡◌, ℕ, zero, suc, ◌+◌, ◌-◌, ◌*◌, ◌<◌, ◌≤◌, min, Bool, true, false, cond, not, ◌&&◌, eqb, leb, ltb, ◌⊎◌, List, [], ◌∷◌, ◌++◌, map, length, get_or, take, drop, Some, None, Ok, Err, Option, Result, sym, refl, ap, ◌∙◌, subst, inl, inr, ⊎_elim, arith, ◌||◌}
use Rattle.std.specs.List.{list_any, All, find, fold, zip}
use Rattle.std.specs.Option.{unwrap_or}
use Rattle.std.proofs.lemmas.List.Elements.{All-nil, All-cons, All-head, All-tail, All-weaker}
use Rattle.std.proofs.lemmas.List.{drop_more, at_drop_all}
use Rattle.std.proofs.lemmas.List.Sums.{fold-append}
use Rattle.std.proofs.lemmas.Bool.{true≢false, and_parts, and_from, leb-true, ltb-true, le-leb, lt-ltb, cases_lt, eqb-true, eq-eqb, ne_eqb, cond-true, cond-false}
use Rattle.refusal.specs.declared.Refusal.{Refusal}
use Rattle.dds.specs.declared.area.Area.{Area}
use Rattle.dds.specs.declared.layout.Layout.{Layout}
use Rattle.dds.specs.declared.piece.Piece.{Piece}
use Rattle.dds.specs.declared.table.Table.{Table}
use Rattle.dds.specs.Places.{exists_in, area_in, AreaOf}
use Rattle.loans.specs.declared.call.Call.{Call}
use Rattle.loans.specs.declared.loan.Loan.{Loan}
use Rattle.painters.specs.declared.Painter.{Painter}
use Rattle.loans.specs.Lists.{less_first, less_all}
use Rattle.loans.specs.Ledgers.{no_loan}
use Rattle.loans.specs.Stocks.{Stock, is_number, is_out, the_loan}
use Rattle.loans.specs.Strokes.{stroke_place}
use Rattle.loans.specs.Rules.{Request, request_of, answers_to}
use Rattle.loans.specs.Runs.{opened_state}
use Rattle.loans.specs.Rules.Request.{lend, paint, undo, keep, cancel}
use Rattle.loans.specs.Lending.{granting}
use Rattle.loans.specs.Journals.{Event, Stroke, written_down, journal_of, lent, out_in, stroke_of, reach_over, covers, laying, standing, ever_laid}
use Rattle.loans.specs.Law.{OfPiece, OfListed, InRow}
use Rattle.painters.specs.Tracing.{newest_over, paid_off, owing_more, owes_nothing, owed_before, owed, unless_out, piece_after, piece_out, area_for, painter_by, no_call, no_answer, past_of, painter_at, IsNewest, NewestPainter, begin_of, LiesOver, PaintedBy, IsRun, Traced}
use Rattle.loans.proofs.Outs.{out_less, loan_less}
use Rattle.loans.proofs.Searches.{some_append, first_none}
use Rattle.loans.proofs.Runs.{law_run, standing_all, lent_all}

-- what each loan owes
abbrev pub Owes : Type 0
Owes = ℕ → Option ℕ

abbrev pay : ℕ → Owes → Owes
pay l o m = paid_off (eqb l m) (o m)

abbrev owe : ℕ → Owes → Owes
owe u o m = owing_more (eqb u m) (o m)

abbrev lose : ℕ → Owes → Owes
lose u o m = cond (eqb u m) None (o m)

-- the strokes that still stand, where loans owe some
abbrev pub survivors : Owes → List Stroke → List Stroke
survivors o [] = []
survivors o (s ∷ ss) =
    cond (owes_nothing (o s.painting.loan)) (s ∷ survivors (pay s.painting.loan o) ss) (survivors (pay s.painting.loan o) ss)

same_owes : (o p : Owes) (ss : List Stroke) → ((m : ℕ) → o m ≡ p m) → survivors o ss ≡ survivors p ss
same_owes o p ss e = ap (λ (x : Owes). survivors x ss) (λ i m. e m i)

-- nothing is owed
pub survive_all : (o : Owes) (ss : List Stroke) → ((m : ℕ) → o m ≡ Some 0) → survivors o ss ≡ ss
survive_all o [] e = refl
survive_all o (s ∷ ss) e =
    rw (e s.painting.loan)
    (ap (λ (xs : List Stroke). s ∷ xs)
    (survive_all (pay s.painting.loan o) ss (λ m. ap (paid_off (eqb s.painting.loan m)) (e m) ∙ ap (λ (k : ℕ). Some k) (none (eqb s.painting.loan m)))))
  where
    none : (b : Bool) → cond b (0 - 1) 0 ≡ 0
    none true = refl
    none false = refl

pays_back : (b : Bool) (o : Option ℕ) → paid_off b (owing_more b o) ≡ o
pays_back true None = refl
pays_back true (Some k) = ap (λ (x : ℕ). Some x) (omega arith)
pays_back false None = refl
pays_back false (Some k) = refl

owes_some : (o : Option ℕ) → owes_nothing (owing_more true o) ≡ false
owes_some None = refl
owes_some (Some k) = ne_eqb (k + 1) 0 (λ e. omega arith)

pay_lost : (b : Bool) (o : Option ℕ) → paid_off b (cond b None o) ≡ cond b None o
pay_lost true o = refl
pay_lost false None = refl
pay_lost false (Some k) = refl

pay_not : (o : Option ℕ) → paid_off false o ≡ o
pay_not None = refl
pay_not (Some k) = refl

owe_not : (o : Option ℕ) → owing_more false o ≡ o
owe_not None = refl
owe_not (Some k) = refl

-- payments of one loan leave what another owes
pay_owe : (l u m : ℕ) (o : Option ℕ) → eqb u l ≡ false → owing_more (eqb u m) (paid_off (eqb l m) o) ≡ paid_off (eqb l m) (owing_more (eqb u m) o)
pay_owe l u m o ne = go (eqb l m) refl
  where
    go : (b : Bool) → eqb l m ≡ b → owing_more (eqb u m) (paid_off b o) ≡ paid_off b (owing_more (eqb u m) o)
    go true e =
        let other : eqb u m ≡ false = subst (λ x. eqb u x ≡ false) (eqb-true l m e) ne in
        rw other (owe_not (paid_off true o) ∙ sym (ap (paid_off true) (owe_not o)))
    go false e = ap (owing_more (eqb u m)) (pay_not o) ∙ sym (pay_not (owing_more (eqb u m) o))

pay_lose : (l u m : ℕ) (o : Option ℕ) → eqb u l ≡ false → cond (eqb u m) None (paid_off (eqb l m) o) ≡ paid_off (eqb l m) (cond (eqb u m) None o)
pay_lose l u m o ne = go (eqb u m)
  where
    go : (b : Bool) → cond b None (paid_off (eqb l m) o) ≡ paid_off (eqb l m) (cond b None o)
    go true = refl
    go false = refl

-- an undo takes back the newest that stands
survive_undo : (u : ℕ) (o : Owes) (ss : List Stroke) → survivors o (less_first (stroke_of u) ss) ≡ survivors (owe u o) ss
survive_undo u o [] = refl
survive_undo u o (s ∷ ss) = go (eqb u s.painting.loan) refl (survive_undo u (pay s.painting.loan o) ss)
  where
    l : ℕ
    l = s.painting.loan

    go : (b : Bool) → eqb u l ≡ b → survivors (pay l o) (less_first (stroke_of u) ss) ≡ survivors (owe u (pay l o)) ss
        → survivors o (cond b ss (s ∷ less_first (stroke_of u) ss))
        ≡ cond (owes_nothing (owing_more b (o l))) (s ∷ survivors (pay l (owe u o)) ss) (survivors (pay l (owe u o)) ss)
    go true e rest =
        same_owes o (pay l (owe u o)) ss
        (λ m. sym (ap (λ (x : ℕ). paid_off (eqb x m) (owing_more (eqb u m) (o m))) (sym (eqb-true u l e)) ∙ pays_back (eqb u m) (o m)))
        ∙ sym (cond-false _ _ _ (owes_some (o l)))
    go false e rest =
        let later : survivors (pay l o) (less_first (stroke_of u) ss) ≡ survivors (pay l (owe u o)) ss =
        rest ∙ same_owes (owe u (pay l o)) (pay l (owe u o)) ss (λ m. pay_owe l u m (o m) e) in
        rw (owe_not (o l)) (ap (λ (xs : List Stroke). cond (owes_nothing (o l)) (s ∷ xs) xs) later)

-- a cancel takes back all
survive_cancel : (u : ℕ) (o : Owes) (ss : List Stroke) → survivors o (less_all (stroke_of u) ss) ≡ survivors (lose u o) ss
survive_cancel u o [] = refl
survive_cancel u o (s ∷ ss) = go (eqb u s.painting.loan) refl (λ x. survive_cancel u x ss)
  where
    l : ℕ
    l = s.painting.loan

    go : (b : Bool) → eqb u l ≡ b → ((x : Owes) → survivors x (less_all (stroke_of u) ss) ≡ survivors (lose u x) ss)
        → survivors o (cond (not b) (s ∷ less_all (stroke_of u) ss) (less_all (stroke_of u) ss))
        ≡ cond (owes_nothing (cond b None (o l))) (s ∷ survivors (pay l (lose u o)) ss) (survivors (pay l (lose u o)) ss)
    go true e rest =
        rest o
        ∙ same_owes (lose u o) (pay l (lose u o)) ss
        (λ m. sym (ap (λ (x : ℕ). paid_off (eqb x m) (cond (eqb u m) None (o m))) (sym (eqb-true u l e)) ∙ pay_lost (eqb u m) (o m)))
    go false e rest =
        let later : survivors (pay l o) (less_all (stroke_of u) ss) ≡ survivors (pay l (lose u o)) ss =
        rest (pay l o) ∙ same_owes (lose u (pay l o)) (pay l (lose u o)) ss (λ m. pay_lose l u m (o m) e) in
        ap (λ (xs : List Stroke). cond (owes_nothing (o l)) (s ∷ xs) xs) later

-- the loan of a number that is out, and its piece
record OutAs (t : Table) (n : ℕ) (p : Piece) (ls : List Loan) : Type 0 where
  out : is_out ls n ≡ true
  area : (the_loan ls n).area ≡ area_in t p
  exists : exists_in t p ≡ true

abbrev PieceFound : Table → ℕ → List Loan → Option Piece → Type 0
PieceFound t n ls None = is_out ls n ≡ false
PieceFound t n ls (Some p) = OutAs t n p ls

first_append : {A : Type 0} (d : A) (p : A → Bool) (xs ys : List A) → unwrap_or (find p (xs ++ ys)) d ≡ cond (list_any p xs) (unwrap_or (find p xs) d) (unwrap_or (find p ys) d)
first_append d p [] ys = refl
first_append d p (x ∷ xs) ys =
    elim (p x) as (λ b. unwrap_or (cond b (Some x) (find p (xs ++ ys))) d
    ≡ cond (b || list_any p xs) (unwrap_or (cond b (Some x) (find p xs)) d) (unwrap_or (find p ys) d)) [ true ↦ refl | false ↦ first_append d p xs ys ]

found_lent : (t : Table) (n : ℕ) (ls : List Loan) (o : Option Piece) (x : ℕ) (p : Piece) (who : ℕ) → exists_in t p ≡ true → PieceFound t n ls o
    → PieceFound t n (ls ++ granting x p who (area_in t p) ∷ []) (unless_out o (eqb n x) p)
found_lent t n ls (Some q) x p who exists f =
    record {
      out = some_append (is_number n) ls _ ∙ cond-true _ _ _ f.out;
      area = ap (λ (l : Loan). l.area) (first_append no_loan (is_number n) ls _ ∙ cond-true _ _ _ f.out) ∙ f.area;
      exists = f.exists;
    }
found_lent t n ls None x p who exists f = go (eqb n x) refl
  where
    new : List Loan
    new = granting x p who (area_in t p) ∷ []

    go : (b : Bool) → eqb n x ≡ b → PieceFound t n (ls ++ new) (cond b (Some p) None)
    go true e =
        record {
          out = some_append (is_number n) ls new ∙ cond-false _ _ _ f ∙ ap (λ b. b || false) e;
          area =
              ap (λ (l : Loan). l.area)
              (first_append no_loan (is_number n) ls new ∙ cond-false _ _ _ f
              ∙ ap (λ b. unwrap_or (cond b (Some (granting x p who (area_in t p))) None) no_loan) e);
          exists = exists;
        }
    go false e = some_append (is_number n) ls new ∙ cond-false _ _ _ f ∙ ap (λ b. b || false) e

found_ended : (t : Table) (n : ℕ) (ls : List Loan) (o : Option Piece) (m : ℕ) → PieceFound t n ls o → PieceFound t n (less_all (is_number m) ls) (cond (eqb m n) None o)
found_ended t n ls o m f = go (eqb m n) refl o f
  where
    go : (b : Bool) → eqb m n ≡ b → (q : Option Piece) → PieceFound t n ls q → PieceFound t n (less_all (is_number m) ls) (cond b None q)
    go true e q g = out_less ls m n ∙ rw e (elim (is_out ls n) as (λ b. (b && false) ≡ false) [ true ↦ refl | false ↦ refl ])
    go false e None g = out_less ls m n ∙ rw g refl
    go false e (Some p) g =
        record {
          out = out_less ls m n ∙ rw (g.out, e) refl;
          area = ap (λ (l : Loan). l.area) (loan_less ls m n (λ f. true≢false (sym (eq-eqb m n (sym f)) ∙ e))) ∙ g.area;
          exists = g.exists;
        }

-- loans that were granted before are among those granted
pub pieces_before : (t : Table) (d : Request) (r : Result ℕ Refusal) (h : List Event) → All (OfPiece t) (lent t (record { call = d; answer = r } ∷ h)) → All (OfPiece t) (lent t h)
pieces_before t d (Err e) h a = a
pieces_before t (lend p who) (Ok x) h a = All-tail (OfPiece t) _ _ a
pieces_before t d (Ok x) h a = a

found_after : (t : Table) (n : ℕ) (d : Request) (r : Result ℕ Refusal) (h : List Event) → All (OfPiece t) (lent t (record { call = d; answer = r } ∷ h))
    → PieceFound t n (out_in t h) (piece_out n h) → PieceFound t n (out_in t (record { call = d; answer = r } ∷ h)) (piece_after n (piece_out n h) d r)
found_after t n d (Err e) h a f = f
found_after t n (lend p who) (Ok x) h a f = found_lent t n (out_in t h) (piece_out n h) x p who (All-head (OfPiece t) _ _ a).0 f
found_after t n (keep m) (Ok x) h a f = found_ended t n (out_in t h) (piece_out n h) m f
found_after t n (cancel m) (Ok x) h a f = found_ended t n (out_in t h) (piece_out n h) m f
found_after t n d (Ok x) h a f = f

found : (t : Table) (n : ℕ) (h : List Event) → All (OfPiece t) (lent t h) → PieceFound t n (out_in t h) (piece_out n h)
found t n [] a = refl
found t n (e ∷ h) a = found_after t n e.call e.answer h a (found t n h (pieces_before t e.call e.answer h a))

area_is : (t : Table) (n : ℕ) (ls : List Loan) (o : Option Piece) → PieceFound t n ls o → (the_loan ls n).area ≡ area_for t o
area_is t n ls None f = ap (λ (l : Loan). l.area) (first_none (is_number n) no_loan ls f)
area_is t n ls (Some p) f = f.area ∙ sym (cond-true _ _ _ f.exists)

-- the first of two
abbrev pub or_else : Option Painter → Option Painter → Option Painter
or_else (Some w) x = Some w
or_else None x = x

newest_first : (s : Stroke) (ss : List Stroke) (place : ℕ) (b c : Bool) → covers s place ≡ c
    → newest_over (cond b (s ∷ ss) ss) place
    ≡ or_else (cond (c && b) (Some (record { loan = s.painting.loan; borrower = s.painting.borrower })) None) (newest_over ss place)
newest_first s ss place true true e = cond-true _ _ _ e
newest_first s ss place true false e = cond-false _ _ _ e
newest_first s ss place false true e = refl
newest_first s ss place false false e = refl

-- one call further back
pub walk_one : (t : Table) (opening : List ℕ) (h : List Event) (o : Owes) (place : ℕ) (d : Request) (r : Result ℕ Refusal) → All (OfPiece t) (lent t h)
    → newest_over (survivors o (standing t opening (record { call = d; answer = r } ∷ h))) place
    ≡ or_else (painter_by t (λ n. piece_out n h) o place d r) (newest_over (survivors (λ m. owed_before m (o m) d r) (standing t opening h)) place)
walk_one t opening h o place d (Err e) a = refl
walk_one t opening h o place (paint p) (Ok x) a =
    newest_first (laying opening (out_in t h) (standing t opening h) p) (survivors (pay p.loan o) (standing t opening h)) place (owes_nothing (o p.loan)) _
    (ap (λ (v : Area). reach_over (stroke_place v p) (length p.laid) place) (area_is t p.loan (out_in t h) (piece_out p.loan h) (found t p.loan h a)))
walk_one t opening h o place (undo m who) (Ok x) a = ap (λ ss. newest_over ss place) (survive_undo m o (standing t opening h))
walk_one t opening h o place (cancel m) (Ok x) a = ap (λ ss. newest_over ss place) (survive_cancel m o (standing t opening h))
walk_one t opening h o place d (Ok x) a = refl

written_more : (h : List Event) (cs : List Call) (rs : List (Result ℕ Refusal)) (k : ℕ) (dc : Call) (dr : Result ℕ Refusal) → k < length cs → k < length rs
    → written_down h (map request_of (take (suc k) cs)) (take (suc k) rs)
    ≡ record { call = request_of (get_or cs k dc); answer = get_or rs k dr } ∷ written_down h (map request_of (take k cs)) (take k rs)
written_more h [] rs k dc dr i j = absurd (omega arith)
written_more h (c ∷ cs) [] k dc dr i j = absurd (omega arith)
written_more h (c ∷ cs) (r ∷ rs) zero dc dr i j = refl
written_more h (c ∷ cs) (r ∷ rs) (suc k) dc dr i j = written_more (record { call = request_of c; answer = r } ∷ h) cs rs k dc dr (omega arith) (omega arith)

pub past_more : (cs : List Call) (rs : List (Result ℕ Refusal)) (k : ℕ) (dc : Call) (dr : Result ℕ Refusal) → k < length cs → k < length rs
    → past_of cs rs (k + 1) ≡ record { call = request_of (get_or cs k dc); answer = get_or rs k dr } ∷ past_of cs rs k
past_more cs rs k dc dr i j =
    let one : suc k ≡ k + 1 = omega arith in
    subst (λ x. past_of cs rs x ≡ record { call = request_of (get_or cs k dc); answer = get_or rs k dr } ∷ past_of cs rs k) one (written_more [] cs rs k dc dr i j)

-- what a walk over pairs of a call and its answer finds out, and what is found out of their journal
abbrev pub folded : ℕ → List (Call × Result ℕ Refusal) → Option Piece
folded n ps = fold (λ o p. piece_after n o (request_of p.0) p.1) None ps

pub folded_more : (n : ℕ) (ps : List (Call × Result ℕ Refusal)) (o : Option Piece) (c : Call) (r : Result ℕ Refusal) (o' : Option Piece) → o ≡ folded n ps
    → o' ≡ piece_after n o (request_of c) r → o' ≡ folded n (ps ++ (c, r) ∷ [])
folded_more n ps o c r o' e f =
    f ∙ ap (λ x. piece_after n x (request_of c) r) e ∙ sym (fold-append (λ x (p : Call × Result ℕ Refusal). piece_after n x (request_of p.0) p.1) None ps ((c, r) ∷ []))

piece_written : (n : ℕ) (h : List Event) (cs : List Call) (rs : List (Result ℕ Refusal)) (k : ℕ)
    → fold (λ o (p : Call × Result ℕ Refusal). piece_after n o (request_of p.0) p.1) (piece_out n h) (take k (zip cs rs))
    ≡ piece_out n (written_down h (map request_of (take k cs)) (take k rs))
piece_written n h cs rs zero = refl
piece_written n h [] rs (suc k) = refl
piece_written n h (c ∷ cs) [] (suc k) = refl
piece_written n h (c ∷ cs) (r ∷ rs) (suc k) = piece_written n (record { call = request_of c; answer = r } ∷ h) cs rs k

pub piece_folded : (n k : ℕ) (cs : List Call) (rs : List (Result ℕ Refusal)) (o : Option Piece) → o ≡ folded n (take k (zip cs rs))
    → o ≡ piece_out n (journal_of (map request_of (take k cs)) (take k rs))
piece_folded n k cs rs o e = e ∙ piece_written n [] cs rs k

-- a position behind the calls or behind the answers
abbrev pub Behind : List Call → List (Result ℕ Refusal) → ℕ → Type 0
Behind cs rs k = (length cs ≤ k) ⊎ (length rs ≤ k)

-- the first of the calls or answers that end
pub shorter : (cs : List Call) (rs : List (Result ℕ Refusal)) (k : ℕ) → k ≡ min (length cs) (length rs) → Behind cs rs k
shorter cs rs k e =
    ⊎_elim (λ (less : k < length cs). inr (omega (arith, e))) (λ (more : length cs ≤ k). inl more) (cases_lt k (length cs))

behind_less : (c : Call) (r : Result ℕ Refusal) (cs : List Call) (rs : List (Result ℕ Refusal)) (k : ℕ) → Behind (c ∷ cs) (r ∷ rs) (suc k) → Behind cs rs k
behind_less c r cs rs k (inl h) = inl (omega arith)
behind_less c r cs rs k (inr h) = inr (omega arith)

written_all : (h : List Event) (cs : List Call) (rs : List (Result ℕ Refusal)) (k : ℕ) → Behind cs rs k
    → written_down h (map request_of (take k cs)) (take k rs) ≡ written_down h (map request_of cs) rs
written_all h [] rs zero b = refl
written_all h [] rs (suc k) b = refl
written_all h (c ∷ cs) [] zero b = refl
written_all h (c ∷ cs) [] (suc k) b = refl
written_all h (c ∷ cs) (r ∷ rs) zero (inl b) = absurd (omega arith)
written_all h (c ∷ cs) (r ∷ rs) zero (inr b) = absurd (omega arith)
written_all h (c ∷ cs) (r ∷ rs) (suc k) b = written_all (record { call = request_of c; answer = r } ∷ h) cs rs k (behind_less c r cs rs k b)

pub past_all : (cs : List Call) (rs : List (Result ℕ Refusal)) (k : ℕ) → Behind cs rs k → past_of cs rs k ≡ journal_of (map request_of cs) rs
past_all cs rs k b = written_all [] cs rs k b

-- what is owed from a position on
owed_nil : (n : ℕ) (cs : List Call) → owed n cs [] ≡ Some 0
owed_nil n [] = refl
owed_nil n (c ∷ cs) = refl

pub owed_all : (n : ℕ) (cs : List Call) (rs : List (Result ℕ Refusal)) (k : ℕ) → Behind cs rs k → owed n (drop k cs) (drop k rs) ≡ Some 0
owed_all n cs rs k (inl h) = at_drop_all (λ xs. owed n xs (drop k rs)) cs k h
owed_all n cs rs k (inr h) = at_drop_all (λ xs. owed n (drop k cs) xs) rs k h ∙ owed_nil n (drop k cs)

pub owed_more : (n : ℕ) (cs : List Call) (rs : List (Result ℕ Refusal)) (k : ℕ) (dc : Call) (dr : Result ℕ Refusal) → k < length cs → k < length rs
    → owed n (drop k cs) (drop k rs) ≡ owed_before n (owed n (drop (k + 1) cs) (drop (k + 1) rs)) (request_of (get_or cs k dc)) (get_or rs k dr)
owed_more n cs rs k dc dr i j =
    ap (λ xs. owed n xs (drop k rs)) (drop_more cs k dc i) ∙ ap (λ xs. owed n (get_or cs k dc ∷ drop (k + 1) cs) xs) (drop_more rs k dr j)

-- strokes that were all taken back stay so
abbrev is_some : Option ℕ → Bool
is_some None = false
is_some (Some k) = true

gone_before : (n : ℕ) (d : Request) (r : Result ℕ Refusal) → owed_before n None d r ≡ None
gone_before n d (Err e) = refl
gone_before n (cancel m) (Ok x) = elim (eqb m n) as (λ b. cond {A = Option ℕ} b None None ≡ None) [ true ↦ refl | false ↦ refl ]
gone_before n d (Ok x) = refl

gone_all : (n : ℕ) (cs : List Call) (rs : List (Result ℕ Refusal)) (k : ℕ) → owed n (drop k cs) (drop k rs) ≡ None → owed n cs rs ≡ None
gone_all n cs rs zero e = e
gone_all n [] rs (suc k) e = absurd (true≢false (ap is_some e))
gone_all n (c ∷ cs) [] (suc k) e = absurd (true≢false (ap is_some (sym (owed_nil n (drop k cs)) ∙ e)))
gone_all n (c ∷ cs) (r ∷ rs) (suc k) e = rw (gone_all n cs rs k e) (gone_before n (request_of c) r)

pub gone_from : (n : ℕ) (cs : List Call) (rs : List (Result ℕ Refusal)) (k j : ℕ) → j ≤ k → owed n (drop k cs) (drop k rs) ≡ None → owed n (drop j cs) (drop j rs) ≡ None
gone_from n cs rs k zero h e = gone_all n cs rs k e
gone_from n cs rs zero (suc j) h e = absurd (omega arith)
gone_from n [] rs (suc k) (suc j) h e = absurd (true≢false (ap is_some e))
gone_from n (c ∷ cs) [] (suc k) (suc j) h e = absurd (true≢false (ap is_some (sym (owed_nil n (drop k cs)) ∙ e)))
gone_from n (c ∷ cs) (r ∷ rs) (suc k) (suc j) h e = gone_from n cs rs k j (omega arith) e

-- what a loan owes from a position on, as a walk back has it
pub record OwedAt (cs : List Call) (rs : List (Result ℕ Refusal)) (n from k o : ℕ) : Type 0 where
  pub is : owed n (drop k cs) (drop k rs) ≡ Some o
  pub few : o + k ≤ length cs
  pub inside : k ≤ length rs
  pub start : (from ≤ k) ⊎ (Behind cs rs from × (o ≡ 0))

module _ (cs : List Call) (rs : List (Result ℕ Refusal)) (n from k o : ℕ) (at : OwedAt cs rs n from k o) where
  -- one call further back
  pub owed_back : from < k → (dc : Call) (dr : Result ℕ Refusal) → owed n (drop (k - 1) cs) (drop (k - 1) rs) ≡ owed_before n (Some o) (request_of (get_or cs (k - 1) dc)) (get_or rs (k - 1) dr)
  owed_back h dc dr =
      let back : k - 1 + 1 ≡ k = omega arith in
      owed_more n cs rs (k - 1) dc dr (omega (arith, at.few)) (omega (arith, at.inside))
      ∙ ap (λ x. owed_before n (owed n (drop x cs) (drop x rs)) (request_of (get_or cs (k - 1) dc)) (get_or rs (k - 1) dr)) back
      ∙ ap (λ x. owed_before n x (request_of (get_or cs (k - 1) dc)) (get_or rs (k - 1) dr)) at.is

  pub owed_gone : from < k → (dc : Call) (dr : Result ℕ Refusal) → None ≡ owed_before n (Some o) (request_of (get_or cs (k - 1) dc)) (get_or rs (k - 1) dr)
      → owed n (drop from cs) (drop from rs) ≡ None
  owed_gone h dc dr e = gone_from n cs rs (k - 1) from (omega arith) (owed_back h dc dr ∙ sym e)

  pub owed_there : k ≤ from → owed n (drop from cs) (drop from rs) ≡ Some o
  owed_there h = go at.start
    where
      go : (from ≤ k) ⊎ (Behind cs rs from × (o ≡ 0)) → owed n (drop from cs) (drop from rs) ≡ Some o
      go (inl low) = let same : k ≡ from = omega arith in subst (λ x. owed n (drop x cs) (drop x rs) ≡ Some o) same at.is
      go (inr b) = owed_all n cs rs from b.0 ∙ ap (λ (x : ℕ). Some x) (sym b.1)

pub owed_last : (cs : List Call) (rs : List (Result ℕ Refusal)) (n from k : ℕ) → Behind cs rs k → k ≤ length cs → k ≤ length rs → OwedAt cs rs n from k 0
owed_last cs rs n from k b few inside =
    record {
      is = owed_all n cs rs k b;
      few = omega arith;
      inside = inside;
      start = ⊎_elim (λ (less : from < k). inl (omega arith)) (λ (more : k ≤ from). inr (behind_more b more, refl)) (cases_lt from k);
    }
  where
    behind_more : Behind cs rs k → k ≤ from → Behind cs rs from
    behind_more (inl h) more = inl (omega arith)
    behind_more (inr h) more = inr (omega arith)

-- a stroke lies where its own numbers and those of its piece say
pub record PlacedSo (y : Layout) (s : Stroke) : Type 0 where
  pub place : s.place ≡ begin_of y.table s
  pub listed : AreaOf y s.piece (area_in y.table s.piece)

-- a stroke in a row of a loan's piece does
placed_row : (y : Layout) (ls : List Loan) → All (OfPiece y.table) ls → All (OfListed y) ls → (s : Stroke) → InRow ls s → PlacedSo y s
placed_row y ls pieces areas s r =
    let l : Loan = the_loan ls s.painting.loan in
    let by_table : l.area ≡ area_in y.table l.piece = (lent_all (OfPiece y.table) ls s.painting.loan pieces r.lent).1 in
    let listed : AreaOf y l.piece l.area = lent_all (OfListed y) ls s.painting.loan areas r.lent in
    record {
      place = r.place ∙ ap (λ (a : Area). a.place + (s.painting.row * a.row_bytes + s.painting.first)) (by_table ∙ ap (area_in y.table) (sym r.piece));
      listed = subst (λ (p : Piece). AreaOf y p (area_in y.table p)) (sym r.piece) (subst (AreaOf y l.piece) by_table listed);
    }

-- the newest stroke over a byte, by numbers
painted_by : (y : Layout) (ss : List Stroke) (i : ℕ) → All (PlacedSo y) ss → PaintedBy y ss i (newest_over ss i)
painted_by y [] i h = All-nil (λ k. LiesOver y.table k i → ⊥)
painted_by y (s ∷ ss) i h = go (painted_by y ss i (All-tail (PlacedSo y) s ss h)) (covers s i) refl
  where
    Free : Stroke → Type 0
    Free k = LiesOver y.table k i → ⊥

    placed : PlacedSo y s
    placed = All-head (PlacedSo y) s ss h

    free : covers s i ≡ false → Free s
    free e o =
        let at = placed.place in
        let low = o.0 in
        let high = o.1 in
        true≢false (sym (and_from _ _ (le-leb s.place i (omega arith)) (lt-ltb i (s.place + length s.painting.laid) (omega arith))) ∙ e)

    more : covers s i ≡ false → (r : Option Painter) → PaintedBy y ss i r → PaintedBy y (s ∷ ss) i r
    more e None n = All-cons Free s ss (free e) n
    more e (Some p) n = record {
      newer = s ∷ n.newer;
      stroke = n.stroke;
      older = n.older;
      among = ap (λ ks. s ∷ ks) n.among;
      loan = n.loan;
      borrower = n.borrower;
      over = n.over;
      none_newer = All-cons Free s n.newer (free e) n.none_newer;
      listed = n.listed;
    }

    go : PaintedBy y ss i (newest_over ss i) → (b : Bool) → covers s i ≡ b → PaintedBy y (s ∷ ss) i (cond b (Some (record { loan = s.painting.loan; borrower = s.painting.borrower })) (newest_over ss i))
    go rest true e =
        let parts = and_parts (leb s.place i) (ltb i (s.place + length s.painting.laid)) e in
        let low : s.place ≤ i = leb-true s.place i parts.0 in
        let high : i < s.place + length s.painting.laid = ltb-true i (s.place + length s.painting.laid) parts.1 in
        let at : s.place ≡ begin_of y.table s = placed.place in
        record {
          newer = [];
          stroke = s;
          older = ss;
          among = refl;
          loan = refl;
          borrower = refl;
          over = (omega arith, omega arith);
          none_newer = All-nil Free;
          listed = placed.listed;
        }
    go rest false e = more e (newest_over ss i) rest

-- of a run the law has it that the loans are of pieces that exist, and that each stroke lies in a row of its loan's piece
traced : (y : Layout) (ds : List Request) (rs : List (Result ℕ Refusal)) (place : ℕ) (r : Option Painter)
    → (All (OfPiece y.table) (lent y.table (journal_of ds rs)) → NewestPainter y.table ds rs place r) → Traced y ds rs place r
traced y ds rs place r newest = record { run = of_run; placed = placed_in; pieces = newest }
  where
    -- of the answers to a run
    at_run : (P : List (Result ℕ Refusal) → Type 0) (number : ℕ) (file : List ℕ) (k : Stock) → IsRun y number file k ds rs
        → P (answers_to (opened_state y number file k) ds) → P rs
    at_run P number file k is p = subst P (sym is.answers) p

    of_run : (number : ℕ) (file : List ℕ) (k : Stock) → IsRun y number file k ds rs → NewestPainter y.table ds rs place r
    of_run number file k is =
        newest (at_run (λ x. All (OfPiece y.table) (lent y.table (journal_of ds x))) number file k is (law_run y number file k ds is.length is.marks is.bytes).pieces)

    all_placed : (number : ℕ) (file : List ℕ) (k : Stock) → IsRun y number file k ds rs → All (PlacedSo y) (standing y.table file (journal_of ds rs))
    all_placed number file k is =
        let t : Table = y.table in
        let h : List Event = journal_of ds (answers_to (opened_state y number file k) ds) in
        let law = law_run y number file k ds is.length is.marks is.bytes in
        at_run (λ x. All (PlacedSo y) (standing t file (journal_of ds x))) number file k is
        (standing_all (PlacedSo y) t file h
        (All-weaker (InRow (lent t h)) (PlacedSo y) (placed_row y (lent t h) law.pieces law.areas) (ever_laid t file h) law.rows))

    placed_in : (number : ℕ) (file : List ℕ) (k : Stock) → IsRun y number file k ds rs → PaintedBy y (standing y.table file (journal_of ds rs)) place r
    placed_in number file k is =
        subst (PaintedBy y (standing y.table file (journal_of ds rs)) place) (sym (of_run number file k is file))
        (painted_by y (standing y.table file (journal_of ds rs)) place (all_placed number file k is))

-- a walk back to a position: who laid the newest stroke is still to be found before it
pub record Walked (t : Table) (cs : List Call) (rs : List (Result ℕ Refusal)) (place k : ℕ) : Type 0 where
  pub calls : k ≤ length cs
  pub answers : k ≤ length rs
  pub pieces : All (OfPiece t) (lent t (journal_of (map request_of cs) rs)) → All (OfPiece t) (lent t (past_of cs rs k))
  pub same : All (OfPiece t) (lent t (journal_of (map request_of cs) rs)) → (opening : List ℕ)
      → newest_over (standing t opening (journal_of (map request_of cs) rs)) place
      ≡ newest_over (survivors (λ n. owed n (drop k cs) (drop k rs)) (standing t opening (past_of cs rs k))) place

pub walk_none : (t : Table) (cs : List Call) (rs : List (Result ℕ Refusal)) (place k : ℕ) → Behind cs rs k → k ≤ length cs → k ≤ length rs → Walked t cs rs place k
walk_none t cs rs place k b i j =
    record {
      calls = i;
      answers = j;
      pieces = λ a. subst (λ (h : List Event). All (OfPiece t) (lent t h)) (sym (past_all cs rs k b)) a;
      same = λ a opening.
          ap (λ (h : List Event). newest_over (standing t opening h) place) (sym (past_all cs rs k b))
          ∙ ap (λ (ss : List Stroke). newest_over ss place) (sym (survive_all (λ n. owed n (drop k cs) (drop k rs)) (standing t opening (past_of cs rs k)) (λ n. owed_all n cs rs k b)));
    }

walk_start : (t : Table) (cs : List Call) (rs : List (Result ℕ Refusal)) (place : ℕ) → Walked t cs rs place (min (length cs) (length rs))
walk_start t cs rs place = walk_none t cs rs place (min (length cs) (length rs)) (shorter cs rs (min (length cs) (length rs)) refl) (omega arith) (omega arith)

-- every call was walked past
pub walk_all : (y : Layout) (cs : List Call) (rs : List (Result ℕ Refusal)) (place k : ℕ) → Walked y.table cs rs place k → k ≤ 0 → Traced y (map request_of cs) rs place None
walk_all y cs rs place k w h =
    let none : k ≡ 0 = omega arith in
    traced y (map request_of cs) rs place None
    (λ a opening.
    sym (w.same a opening ∙ ap (λ x. newest_over (survivors (λ n. owed n (drop k cs) (drop k rs)) (standing y.table opening (past_of cs rs x))) place) none))

module _ (t : Table) (cs : List Call) (rs : List (Result ℕ Refusal)) (place j : ℕ) (w : Walked t cs rs place (j + 1)) where
  in_calls : j < length cs
  in_calls = omega (arith, w.calls)

  in_answers : j < length rs
  in_answers = omega (arith, w.answers)

  pieces_here : All (OfPiece t) (lent t (journal_of (map request_of cs) rs)) → All (OfPiece t) (lent t (past_of cs rs j))
  pieces_here a =
      pieces_before t (request_of (get_or cs j no_call)) (get_or rs j no_answer) (past_of cs rs j)
      (subst (λ (h : List Event). All (OfPiece t) (lent t h)) (past_more cs rs j no_call no_answer in_calls in_answers) (w.pieces a))

  here_or_before : All (OfPiece t) (lent t (journal_of (map request_of cs) rs)) → (opening : List ℕ)
      → newest_over (standing t opening (journal_of (map request_of cs) rs)) place
      ≡ or_else (painter_at t cs rs j place) (newest_over (survivors (λ n. owed n (drop j cs) (drop j rs)) (standing t opening (past_of cs rs j))) place)
  here_or_before a opening =
      let owes : Owes = λ n. owed n (drop (j + 1) cs) (drop (j + 1) rs) in
      w.same a opening
      ∙ ap (λ (h : List Event). newest_over (survivors owes (standing t opening h)) place) (past_more cs rs j no_call no_answer in_calls in_answers)
      ∙ walk_one t opening (past_of cs rs j) owes place (request_of (get_or cs j no_call)) (get_or rs j no_answer) (pieces_here a)
      ∙ ap (λ (ss : List Stroke). or_else (painter_at t cs rs j place) (newest_over ss place))
      (same_owes (λ m. owed_before m (owes m) (request_of (get_or cs j no_call)) (get_or rs j no_answer)) (λ n. owed n (drop j cs) (drop j rs)) (standing t opening (past_of cs rs j))
      (λ m. sym (owed_more m cs rs j no_call no_answer in_calls in_answers)))

  found_here : (p : Painter) → Some p ≡ painter_at t cs rs j place → All (OfPiece t) (lent t (journal_of (map request_of cs) rs))
      → NewestPainter t (map request_of cs) rs place (Some p)
  found_here p e a opening =
      sym (here_or_before a opening
      ∙ ap (λ x. or_else x (newest_over (survivors (λ n. owed n (drop j cs) (drop j rs)) (standing t opening (past_of cs rs j))) place)) (sym e))

  not_here : None ≡ painter_at t cs rs j place → Walked t cs rs place j
  not_here e =
      record {
        calls = omega (arith, w.calls);
        answers = omega (arith, w.answers);
        pieces = pieces_here;
        same = λ a opening.
            here_or_before a opening
            ∙ ap (λ x. or_else x (newest_over (survivors (λ n. owed n (drop j cs) (drop j rs)) (standing t opening (past_of cs rs j))) place)) (sym e);
      }

-- past calls that did not paint so
walked_past : (t : Table) (cs : List Call) (rs : List (Result ℕ Refusal)) (place n k : ℕ) → Walked t cs rs place n → k ≤ n
    → ((j : ℕ) → k ≤ j → j < n → painter_at t cs rs j place ≡ None) → Walked t cs rs place k
walked_past t cs rs place zero k w h none = let same : 0 ≡ k = omega arith in subst (Walked t cs rs place) same w
walked_past t cs rs place (suc n) k w h none =
    ⊎_elim
    (λ (less : k < suc n).
    let next : suc n ≡ n + 1 = omega arith in
    let here : painter_at t cs rs n place ≡ None = none n (omega arith) (omega arith) in
    walked_past t cs rs place n k (not_here t cs rs place n (subst (Walked t cs rs place) next w) (sym here)) (omega arith)
    (λ j low high. none j low (omega arith)))
    (λ (more : suc n ≤ k). let same : suc n ≡ k = omega arith in subst (Walked t cs rs place) same w)
    (cases_lt k (suc n))

pub newest_traced : (y : Layout) (cs : List Call) (rs : List (Result ℕ Refusal)) (place : ℕ) (r : Option Painter)
    → IsNewest y.table cs rs place (min (length cs) (length rs)) r → Traced y (map request_of cs) rs place r
newest_traced y cs rs place None none =
    walk_all y cs rs place 0 (walked_past y.table cs rs place (min (length cs) (length rs)) 0 (walk_start y.table cs rs place) (omega arith) (λ j low high. none j high)) (omega arith)
newest_traced y cs rs place (Some p) it =
    let next : it.0 + 1 ≤ min (length cs) (length rs) = omega (arith, it.1) in
    let w : Walked y.table cs rs place (it.0 + 1) =
    walked_past y.table cs rs place (min (length cs) (length rs)) (it.0 + 1) (walk_start y.table cs rs place) next (λ j low high. it.3 j (omega arith) high) in
    traced y (map request_of cs) rs place (Some p) (found_here y.table cs rs place it.0 w p (sym it.2))

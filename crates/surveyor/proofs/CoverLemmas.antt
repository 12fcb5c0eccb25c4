-- Lemmas about whether each seed occurs exactly once.
use Rattle.std.proofs.Common.{ℕ, ◌+◌, ◌<◌, ◌≤◌, ◌≡◌, ◌≢◌, Bool, true, false, cond, List, [], ◌∷◌, ◌++◌, length, refl, sym, ap, subst, ◌∙◌, arith, append_assoc, append-nil, Option, None, Some, Ok, Err, ◌⊎◌, ⊎_elim, inl, inr}
use Rattle.std.specs.Prelude.{nat_le, min, max, ◌==◌, ◌&&◌, OnErr, OnOk}
use Rattle.std.specs.List.{fold}
use Rattle.std.proofs.lemmas.Bool.{and_parts, cases_lt, eq-eqb, eqb-true, le-leb, leb-true}
use Rattle.std.proofs.lemmas.Bool.Decides.{nat_tests}
use Rattle.std.proofs.lemmas.List.{map-append}
use Rattle.std.proofs.lemmas.List.Sums.{sum_by_push}
use Rattle.surveys.specs.declared.finding.Finding.{Finding}
use Rattle.surveys.specs.Parts.{AreOf}
use Rattle.surveys.specs.Covering.{AreApart, AreDoubles, AreHoles, is_in, seeds_in, times}
use Rattle.surveys.specs.declared.stretch.Stretch.{Stretch}
use Rattle.surveys.proofs.Exactness.{times_more}
use Rattle.std.specs.Io.KnownBytes.{Appends}
use Rattle.std.specs.declared.result.Result.{Result}
use Rattle.std.proofs.KnownBytes.{Appends-nil}
use Rattle.surveyor.specs.Statuses.{IsReported}
use Rattle.surveyor.specs.Summed.{AreEnds, IsAskedFor, IsCoveredBy, IsSeedReport, AreLeastAndGreatest, IsToldOf, report_text, span_of, with_seed}

-- How often a seed occurs with one more campaign.
times_push : (x : ℕ) (found : List Finding) (f : Finding) → times x (seeds_in (found ++ f ∷ [])) ≡ times x (seeds_in found) + cond (f.seed == x) 1 0
times_push x found f = ap (times x) (map-append (λ (g : Finding). g.seed) found (f ∷ [])) ∙ sum_by_push (λ (s : ℕ). cond (s == x) 1 0) (seeds_in found) f.seed

still_told : (x : ℕ) (found : List Finding) (f : Finding) → IsToldOf x found → IsToldOf x (found ++ f ∷ [])
still_told x found f h = let e = times_push x found f in omega (arith, e, h)

now_told : (found : List Finding) (f : Finding) → IsToldOf f.seed (found ++ f ∷ [])
now_told found f =
    let e = times_push f.seed found f in
    let one : 1 ≤ cond (f.seed == f.seed) 1 0 = rw (eq-eqb f.seed f.seed refl) (omega arith) in
    omega (arith, e, one)

told_by : (x : ℕ) (found : List Finding) (f : Finding) (t : Bool) → (f.seed == x) ≡ t → 1 ≤ times x (seeds_in found) + cond t 1 0 → IsToldOf x found ⊎ (f.seed ≡ x)
told_by x found f true e h = inr (eqb-true f.seed x e)
told_by x found f false e h = inl (omega (arith, h))

told_so : (x : ℕ) (found : List Finding) (f : Finding) → IsToldOf x (found ++ f ∷ []) → IsToldOf x found ⊎ (f.seed ≡ x)
told_so x found f h = told_by x found f (f.seed == x) refl (subst (λ (n : ℕ). 1 ≤ n) (times_push x found f) h)

-- The least and the greatest seed with one more campaign.
lesser_told : (found : List Finding) (a s : ℕ) → IsToldOf a found → IsToldOf s found → IsToldOf (min a s) found
lesser_told found a s p q = ⊎_elim before behind (cases_lt a s)
  where
    before : a < s → IsToldOf (min a s) found
    before lt = let m : min a s ≡ a = omega (arith, lt) in subst (λ (y : ℕ). IsToldOf y found) (sym m) p

    behind : s ≤ a → IsToldOf (min a s) found
    behind ge = let m : min a s ≡ s = omega (arith, ge) in subst (λ (y : ℕ). IsToldOf y found) (sym m) q

greater_told : (found : List Finding) (a s : ℕ) → IsToldOf a found → IsToldOf s found → IsToldOf (max a s) found
greater_told found a s p q = ⊎_elim before behind (cases_lt a s)
  where
    before : a < s → IsToldOf (max a s) found
    before lt = let m : max a s ≡ s = omega (arith, lt) in subst (λ (y : ℕ). IsToldOf y found) (sym m) q

    behind : s ≤ a → IsToldOf (max a s) found
    behind ge = let m : max a s ≡ a = omega (arith, ge) in subst (λ (y : ℕ). IsToldOf y found) (sym m) p

spread_more : (found : List Finding) (ends : ℕ × ℕ) (f : Finding) → AreLeastAndGreatest found ends → AreLeastAndGreatest (found ++ f ∷ []) (min ends.0 f.seed, max ends.1 f.seed)
spread_more found ends f h = record {
  first = lesser_told (found ++ f ∷ []) ends.0 f.seed (still_told ends.0 found f h.first) (now_told found f);
  last = greater_told (found ++ f ∷ []) ends.1 f.seed (still_told ends.1 found f h.last) (now_told found f);
  within = λ x told. ⊎_elim (old x) (new x) (told_so x found f told);
}
  where
    old : (x : ℕ) → IsToldOf x found → (min ends.0 f.seed ≤ x) × (x ≤ max ends.1 f.seed)
    old x told = let low = (h.within x told).0 in let high = (h.within x told).1 in (omega (arith, low), omega (arith, high))

    new : (x : ℕ) → f.seed ≡ x → (min ends.0 f.seed ≤ x) × (x ≤ max ends.1 f.seed)
    new x e = (omega (arith, e), omega (arith, e))

spread_one : (found : List Finding) (f : Finding) → found ≡ [] → AreLeastAndGreatest (found ++ f ∷ []) (f.seed, f.seed)
spread_one found f none = record {
  first = now_told found f;
  last = now_told found f;
  within = λ x told. ⊎_elim (old x) (new x) (told_so x found f told);
}
  where
    old : (x : ℕ) → IsToldOf x found → (f.seed ≤ x) × (x ≤ f.seed)
    old x told = absurd (let e : times x (seeds_in found) ≡ 0 = ap (λ (l : List Finding). times x (seeds_in l)) none in omega (arith, e, told))

    new : (x : ℕ) → f.seed ≡ x → (f.seed ≤ x) × (x ≤ f.seed)
    new x e = (omega (arith, e), omega (arith, e))

ends_more : (found : List Finding) (ends : Option (ℕ × ℕ)) (f : Finding) → AreEnds found ends → AreEnds (found ++ f ∷ []) (with_seed ends f.seed)
ends_more found None f h = spread_one found f h
ends_more found (Some e) f h = spread_more found e f h

-- The least and the greatest seed of all campaigns, found one campaign after the other.
abbrev pub ends_of : List Finding → Option (ℕ × ℕ)
ends_of found = fold (λ (e : Option (ℕ × ℕ)) (f : Finding). with_seed e f.seed) None found

ends_on : (seen found : List Finding) (ends : Option (ℕ × ℕ)) → AreEnds seen ends → AreEnds (seen ++ found) (fold (λ (e : Option (ℕ × ℕ)) (f : Finding). with_seed e f.seed) ends found)
ends_on seen [] ends h = subst (λ (l : List Finding). AreEnds l ends) (sym (append-nil seen)) h
ends_on seen (f ∷ found) ends h =
    subst (λ (l : List Finding). AreEnds l (fold (λ (e : Option (ℕ × ℕ)) (g : Finding). with_seed e g.seed) (with_seed ends f.seed) found)) (append_assoc seen (f ∷ []) found)
    (ends_on (seen ++ f ∷ []) found (with_seed ends f.seed) (ends_more seen ends f h))

pub ends_are : (found : List Finding) → AreEnds found (ends_of found)
ends_are found = ends_on [] found None refl

-- If no seed is missing and none occurs twice, each occurs once.
told_once : (first last x t : ℕ) → first ≤ x → x ≤ last → false ≡ (nat_le first x && (nat_le x last && (t == 0))) → false ≡ nat_le 2 t → t ≡ 1
told_once first last x t low high some few = grind (arith, nat_tests)

empty : (xs : List Stretch) → length xs ≡ 0 → xs ≡ []
empty [] e = refl
empty (x ∷ xs) e = absurd (omega arith)

-- Each seed from the first to the last occurs exactly once.
abbrev AreOnce : ℕ → ℕ → List Finding → Type 0
AreOnce first last found = (x : ℕ) → first ≤ x → x ≤ last → times x (seeds_in found) ≡ 1

once_by : (first last : ℕ) (found : List Finding) (holes doubles : List Stretch) → AreHoles first last (seeds_in found) holes → AreDoubles (seeds_in found) doubles → length holes ≡ 0 → length doubles ≡ 0 → AreOnce first last found
once_by first last found holes doubles h d lacks twice x low high =
    let hole : false ≡ (nat_le first x && (nat_le x last && (times x (seeds_in found) == 0))) = ap (is_in x) (sym (empty holes lacks)) ∙ h x in
    let double : false ≡ nat_le 2 (times x (seeds_in found)) = ap (is_in x) (sym (empty doubles twice)) ∙ d x in
    told_once first last x (times x (seeds_in found)) low high hole double

-- The first seed of a list of ranges is in one of them.
first_in : (s : Stretch) (ss : List Stretch) → AreApart (s ∷ ss) → is_in s.first (s ∷ ss) ≡ true
first_in s ss h = rw (le-leb s.first s.first (omega arith), le-leb s.first s.last h.1) refl

no_hole : (first last x t : ℕ) → true ≡ (nat_le first x && (nat_le x last && (t == 0))) → (first ≤ x → x ≤ last → t ≡ 1) → ⊥
no_hole first last x t e one =
    let p = and_parts (nat_le first x) (nat_le x last && (t == 0)) (sym e) in
    let q = and_parts (nat_le x last) (t == 0) p.1 in
    let none = eqb-true t 0 q.1 in
    let some = one (leb-true first x p.0) (leb-true x last q.0) in
    omega (arith, none, some)

no_holes : (first last : ℕ) (found : List Finding) (holes : List Stretch) → AreHoles first last (seeds_in found) holes → AreApart holes → AreOnce first last found → length holes ≡ 0
no_holes first last found [] h apart once = refl
no_holes first last found (s ∷ ss) h apart once = absurd (no_hole first last s.first (times s.first (seeds_in found)) (sym (first_in s ss apart) ∙ h s.first) (once s.first))

no_doubles : (found : List Finding) (doubles : List Stretch) → AreDoubles (seeds_in found) doubles → AreApart doubles → ((x : ℕ) → IsToldOf x found → times x (seeds_in found) ≡ 1) → length doubles ≡ 0
no_doubles found [] d apart once = refl
no_doubles found (s ∷ ss) d apart once =
    let twice : 2 ≤ times s.first (seeds_in found) = leb-true 2 (times s.first (seeds_in found)) (sym (d s.first) ∙ first_in s ss apart) in
    let told : IsToldOf s.first found = omega (arith, twice) in
    let one = once s.first told in
    absurd (omega (arith, twice, one))

-- A seed that occurs is one of those that may occur.
told_within : (first last x : ℕ) (found : List Finding) → AreOf first last found → IsToldOf x found → (first ≤ x) × (x ≤ last)
told_within first last x [] all told = absurd (omega (arith, told))
told_within first last x (f ∷ found) all told =
    by (f.seed == x) refl (subst (λ (n : ℕ). 1 ≤ n) (times_more x f.seed (seeds_in found)) told) (λ h. told_within first last x found all.1 h)
  where
    by : (t : Bool) → (f.seed == x) ≡ t → 1 ≤ cond t 1 0 + times x (seeds_in found) → (IsToldOf x found → (first ≤ x) × (x ≤ last)) → (first ≤ x) × (x ≤ last)
    by true e h more = let same = eqb-true f.seed x e in let low = all.0.0 in let high = all.0.1 in (omega (arith, same, low), omega (arith, same, high))
    by false e h more = more (omega (arith, h))

-- The exit status is 0 exactly if each seed occurs once.
pub status_by : (seeds : Option (ℕ × ℕ)) (found : List Finding) (first last status : ℕ) (span : Option (ℕ × ℕ)) (holes doubles : List Stretch) → AreOf (span_of seeds).0 (span_of seeds).1 found → IsAskedFor seeds found span → span ≡ Some (first, last)
    → AreHoles first last (seeds_in found) holes → AreApart holes → AreDoubles (seeds_in found) doubles → AreApart doubles
    → (status ≡ 0 → (length holes ≡ 0) × (length doubles ≡ 0)) → (length holes ≡ 0 → length doubles ≡ 0 → status ≡ 0) → (status ≢ 0 → status ≡ 1) → IsCoveredBy seeds found status
status_by None found first last status span holes doubles all asked is h ha d da well none ill =
    let ends : AreLeastAndGreatest found (first, last) = subst (AreEnds found) is asked in
    record {
      well = λ z a x b low high le ge. (
          let lo = (ends.within a low).0 in
          let hi = (ends.within b high).1 in
          once_by first last found holes doubles h d (well z).0 (well z).1 x (omega (arith, lo, le)) (omega (arith, hi, ge)));
      covered = λ c. none (no_holes first last found holes h ha (λ x low high. c first x last ends.first ends.last low high)) (no_doubles found doubles d da (λ x told. c x x x told told (omega arith) (omega arith)));
      ill = ill;
    }
status_by (Some s) found first last status span holes doubles all asked is h ha d da well none ill =
    let e : Some s ≡ Some (first, last) = sym asked ∙ is in
    let same : s ≡ (first, last) = cc in
    record {
      well = λ z. subst (λ (p : ℕ × ℕ). AreOnce p.0 p.1 found) (sym same) (once_by first last found holes doubles h d (well z).0 (well z).1);
      covered = λ c. none (no_holes first last found holes h ha (subst (λ (p : ℕ × ℕ). AreOnce p.0 p.1 found) same c))
          (no_doubles found doubles d da (λ x told. (let w = told_within s.0 s.1 x found all told in c x w.0 w.1)));
      ill = ill;
    }

-- If there are no campaigns and `--seeds` is not given, no seed should occur.
pub none_asked : (seeds : Option (ℕ × ℕ)) (found : List Finding) (span : Option (ℕ × ℕ)) (status : ℕ) → IsAskedFor seeds found span → span ≡ None → status ≡ 0 → IsCoveredBy seeds found status
none_asked None found span status asked is zero =
    let none : found ≡ [] = subst (AreEnds found) is asked in
    record {
      well = λ z a x b low high le ge. absurd (let e : times a (seeds_in found) ≡ 0 = ap (λ (l : List Finding). times a (seeds_in l)) none in omega (arith, e, low));
      covered = λ c. zero;
      ill = λ some. absurd (some zero);
    }
none_asked (Some s) found span status asked is zero = absurd (let e : Some s ≡ None = sym asked ∙ is in cc)

-- The report on seeds is what `IsSeedReport` states.
pub seeds_reported : (seeds : Option (ℕ × ℕ)) (found : List Finding) (first last : ℕ) (span : Option (ℕ × ℕ)) (holes doubles : List Stretch) (Reports : Option (List ℕ) → Type 0) → IsAskedFor seeds found span → span ≡ Some (first, last)
    → AreHoles first last (seeds_in found) holes → AreDoubles (seeds_in found) doubles → Reports (Some (report_text holes doubles)) → IsSeedReport seeds found Reports
seeds_reported seeds found first last span holes doubles Reports asked is h d told =
    record { span = Some (first, last); asked = subst (IsAskedFor seeds found) is asked; holes = holes; doubles = doubles; missing = h; repeated = d; reported = told }

pub nothing_reported : (seeds : Option (ℕ × ℕ)) (found : List Finding) (span : Option (ℕ × ℕ)) (Fails : Type 0) (old : Option (List ℕ)) → IsAskedFor seeds found span → span ≡ None → IsSeedReport seeds found (IsReported Fails old old)
nothing_reported None found span Fails old asked is =
    let none : found ≡ [] = subst (AreEnds found) is asked in
    record {
      span = None;
      asked = none;
      holes = [];
      doubles = [];
      missing = refl;
      repeated = subst (λ (l : List Finding). AreDoubles (seeds_in l) []) (sym none) (λ x. refl);
      reported = inr (Appends-nil old);
    }
nothing_reported (Some s) found span Fails old asked is = absurd (let e : Some s ≡ None = sym asked ∙ is in cc)

-- A text is written, or its stream fails.
pub put_reported : {T E : Type 0} (r : Result T E) (Fails : Type 0) (old new : Option (List ℕ)) (text told : List ℕ) → OnOk r (Appends old new text) → OnErr r Fails → text ≡ told → IsReported Fails old new (Some told)
put_reported (Ok x) Fails old new text told ok err is = inr (subst (Appends old new) is ok)
put_reported (Err e) Fails old new text told ok err is = inl err

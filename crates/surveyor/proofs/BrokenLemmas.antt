-- Lemmas about what `--break` prints, entry by entry.
use Rattle.std.proofs.Common.{ℕ, ◌+◌, ◌-◌, ◌≤◌, ◌≡◌, Bool, true, false, List, [], ◌∷◌, ◌++◌, map, refl, sym, ap, subst, ◌∙◌, arith, append_assoc, append-nil, Option, None, Some}
use Rattle.std.specs.Prelude.{flat_map, min, IfNone, IfSome}
use Rattle.std.specs.List.{AllZip, range_with_len}
use Rattle.std.specs.Io.KnownBytes.{Appends}
use Rattle.std.proofs.KnownBytes.{Appends-trans}
use Rattle.rayon.proofs.ListFacts.{AllZip-append}
use Rattle.surveys.specs.declared.span.CountRange.{CountRange}
use Rattle.surveys.specs.Family.{Family}
use Rattle.surveys.specs.declared.breach.Breaking.{Breaking}
use Rattle.surveys.specs.Breaches.{IsBreaking, NoneBreaks}
use Rattle.surveys.specs.Breakings.{breaking_text}
use Rattle.surveyor.specs.declared.task.Survey.{Survey}
use Rattle.surveyor.specs.Broken.{Entry, IsBroken, IsEntry, IsSearched, break_header, cut_to, entries_text, entry_text, gap, later_text, sizes_of, sizes_with}
use Rattle.surveys.proofs.Spans.{range_both}

-- Adding one more element appends its text.
flat_more : {A : Type 0} (F : A → List ℕ) (xs : List A) (x : A) → flat_map F (xs ++ x ∷ []) ≡ flat_map F xs ++ F x
flat_more F [] x = append-nil (F x)
flat_more F (y ∷ xs) x = ap (λ (l : List ℕ). F y ++ l) (flat_more F xs x) ∙ sym (append_assoc (F y) (flat_map F xs) (F x))

pub is_none : List Entry → Bool
is_none [] = true
is_none (e ∷ es) = false

no_gap : (t : Bool) → gap t true ≡ []
no_gap true = refl
no_gap false = refl

entries_more : (t : Bool) (es : List Entry) (e : Entry) → entries_text t (es ++ e ∷ []) ≡ entries_text t es ++ (gap t (is_none es) ++ entry_text t e)
unfolding is_none
entries_more t [] e = append-nil (entry_text t e) ∙ ap (λ (l : List ℕ). l ++ entry_text t e) (sym (no_gap t))
entries_more t (x ∷ es) e = ap (λ (l : List ℕ). entry_text t x ++ l) (flat_more (later_text t) es e) ∙ sym (append_assoc (entry_text t x) (flat_map (later_text t) es) (gap t false ++ entry_text t e))

still_some : (es : List Entry) (e : Entry) → is_none (es ++ e ∷ []) ≡ false
unfolding is_none
still_some [] e = refl
still_some (x ∷ es) e = refl

-- The entries of these sizes are printed.
pub record IsPrintedSoFar (s : Survey) (f : Family) (t : Bool) (start now : Option (List ℕ)) (is_first : Bool) (sizes : List (ℕ × ℕ)) : Type 0 where
  pub entries : List Entry
  pub all : AllZip (IsEntry s f) sizes entries
  pub first : is_first ≡ is_none entries
  pub written : Appends start now (break_header t ++ entries_text t entries)

pub so_begins : (s : Survey) (f : Family) (t : Bool) (start now : Option (List ℕ)) (sizes : List (ℕ × ℕ)) → sizes ≡ [] → Appends start now (break_header t) → IsPrintedSoFar s f t start now true sizes
unfolding is_none
so_begins s f t start now sizes none head =
    record {
      entries = [];
      all = subst (λ (l : List (ℕ × ℕ)). AllZip (IsEntry s f) l []) (sym none) tt;
      first = refl;
      written = subst (λ (l : List ℕ). Appends start now l) (sym (append-nil (break_header t))) head;
    }

pub so_more : (s : Survey) (f : Family) (t : Bool) (start now mid later : Option (List ℕ)) (is_first : Bool) (sizes more : List (ℕ × ℕ)) (n m : ℕ) (found : Option Breaking) → IsPrintedSoFar s f t start now is_first sizes → more ≡ sizes ++ (n, m) ∷ []
    → Appends now mid (gap t is_first) → IsSearched s f n m found → Appends mid later (breaking_text t n m found) → IsPrintedSoFar s f t start later false more
so_more s f t start now mid later is_first sizes more n m found h is before searched after =
    let e : Entry = record { generals = n; bound = m; found = found } in
    let front = break_header t ++ entries_text t h.entries in
    let both : Appends now later (gap t is_first ++ entry_text t e) = Appends-trans now mid later (gap t is_first) (entry_text t e) before after in
    let whole : Appends start later (front ++ (gap t is_first ++ entry_text t e)) = Appends-trans start now later front (gap t is_first ++ entry_text t e) h.written both in
    let text : front ++ (gap t is_first ++ entry_text t e) ≡ break_header t ++ entries_text t (h.entries ++ e ∷ []) =
    append_assoc (break_header t) (entries_text t h.entries) (gap t is_first ++ entry_text t e)
    ∙ ap (λ (l : List ℕ). break_header t ++ l) (ap (λ (b : Bool). entries_text t h.entries ++ (gap t b ++ entry_text t e)) h.first ∙ sym (entries_more t h.entries e)) in
    record {
      entries = h.entries ++ e ∷ [];
      all = subst (λ (l : List (ℕ × ℕ)). AllZip (IsEntry s f) l (h.entries ++ e ∷ [])) (sym is) (AllZip-append (IsEntry s f) sizes ((n, m) ∷ []) h.entries (e ∷ []) h.all (record { generals = refl; bound = refl; searched = searched }, tt));
      first = sym (still_some h.entries e);
      written = subst (λ (l : List ℕ). Appends start later l) text whole;
    }

pub so_same : (s : Survey) (f : Family) (t : Bool) (start now : Option (List ℕ)) (is_first : Bool) (sizes more : List (ℕ × ℕ)) → sizes ≡ more → IsPrintedSoFar s f t start now is_first sizes → IsPrintedSoFar s f t start now is_first more
so_same s f t start now is_first sizes more is h = subst (IsPrintedSoFar s f t start now is_first) is h

pub so_ends : (s : Survey) (f : Family) (t : Bool) (start now : Option (List ℕ)) (is_first : Bool) (sizes : List (ℕ × ℕ)) → sizes ≡ sizes_of s.generals s.bound → IsPrintedSoFar s f t start now is_first sizes → IsBroken s f t start now
so_ends s f t start now is_first sizes is h = record { entries = h.entries; all = subst (λ (l : List (ℕ × ℕ)). AllZip (IsEntry s f) l h.entries) is h.all; written = h.written }

-- ---- sizes: pairs of a number of generals and a bound

one_more_in : (a b j k : ℕ) → a ≤ b → j ≡ b - a → k ≡ b + 1 - a → range_with_len a k ≡ range_with_len a j ++ b ∷ []
one_more_in a b j k le e d =
    let whole : k ≡ j + 1 = omega arith in
    let end : a + j ≡ b = omega arith in
    ap (range_with_len a) whole ∙ (range_both a j 1 ∙ ap (λ (n : ℕ). range_with_len a j ++ n ∷ []) end)

map_more : (F : ℕ → ℕ × ℕ) (xs : List ℕ) (x : ℕ) → map F (xs ++ x ∷ []) ≡ map F xs ++ F x ∷ []
map_more F [] x = refl
map_more F (y ∷ xs) x = ap (λ (l : List (ℕ × ℕ)). F y ∷ l) (map_more F xs x)

flat_one_more : {A : Type 0} (F : ℕ → List A) (xs : List ℕ) (x : ℕ) → flat_map F (xs ++ x ∷ []) ≡ flat_map F xs ++ F x
flat_one_more F [] x = append-nil (F x)
flat_one_more F (y ∷ xs) x = ap (λ l. F y ++ l) (flat_one_more F xs x) ∙ sym (append_assoc (F y) (flat_map F xs) (F x))

-- The sizes with fewer generals, and those with as many generals and a lesser bound.
abbrev pub sizes_upto : CountRange → ℕ → ℕ → List (ℕ × ℕ)
sizes_upto bound low count = flat_map (sizes_with bound) (range_with_len low count)

abbrev pub bounds_upto : ℕ → ℕ → ℕ → List (ℕ × ℕ)
bounds_upto n low count = map (λ m. (n, m)) (range_with_len low count)

pub bounds_more : (front : List (ℕ × ℕ)) (n low m j k : ℕ) → low ≤ m → j ≡ m - low → k ≡ m + 1 - low → front ++ bounds_upto n low k ≡ (front ++ bounds_upto n low j) ++ (n, m) ∷ []
bounds_more front n low m j k le e d =
    ap (λ (l : List (ℕ × ℕ)). front ++ l) (ap (map (λ x. (n, x))) (one_more_in low m j k le e d) ∙ map_more (λ x. (n, x)) (range_with_len low j) m) ∙ sym (append_assoc front (bounds_upto n low j) ((n, m) ∷ []))

pub sizes_more : (bound : CountRange) (low n j k i : ℕ) → low ≤ n → j ≡ n - low → k ≡ n + 1 - low → i ≡ min bound.high (min 4 (n - 2)) + 1 - bound.low → sizes_upto bound low j ++ bounds_upto n bound.low i ≡ sizes_upto bound low k
sizes_more bound low n j k i le e d is =
    ap (λ (x : ℕ). sizes_upto bound low j ++ bounds_upto n bound.low x) is ∙ (sym (flat_one_more (sizes_with bound) (range_with_len low j) n) ∙ ap (flat_map (sizes_with bound)) (sym (one_more_in low n j k le e d)))

-- The result of a search is what `IsSearched` states, whether or not something was found.
pub searched_is : (s : Survey) (f : Family) (n m : ℕ) (span : CountRange) (end : ℕ) (o : Option Breaking) → span ≡ cut_to n s.traitors → end ≡ s.last + 1 → IfSome o (IsBreaking f n m span s.first end) → IfNone o (NoneBreaks f n m span s.first end) → IsSearched s f n m o
searched_is s f n m span end None is e some none = subst (λ (x : CountRange). NoneBreaks f n m x s.first (s.last + 1)) is (subst (λ (x : ℕ). NoneBreaks f n m span s.first x) e none)
searched_is s f n m span end (Some b) is e some none = subst (λ (x : CountRange). IsBreaking f n m x s.first (s.last + 1) b) is (subst (λ (x : ℕ). IsBreaking f n m span s.first x b) e some)

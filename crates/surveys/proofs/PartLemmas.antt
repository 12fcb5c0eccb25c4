-- Parts of a survey, line by line.
use Rattle.std.proofs.Common.{ℕ, suc, ◌+◌, ◌<◌, ◌≤◌, ◌≡◌, ◌≢◌, Bool, true, false, cond, List, [], ◌∷◌, ◌++◌, length, take, refl, sym, ap, subst, ◌∙◌, ⊎_elim, arith, append_assoc, append-nil, length-append, Option, None, Some}
use Rattle.std.specs.Prelude.{◌==◌, not, flat_map, min, IsTrue}
use Rattle.std.proofs.lemmas.Bool.{cases_lt, and_from, and_parts}
use Rattle.std.proofs.lemmas.List.{take_all}
use Rattle.std.specs.List.{AllByRecursion, list_all}
use Rattle.std.proofs.lemmas.Bool.Decides.{nat_tests}
use Rattle.text.specs.Parts.{until}
use Rattle.text.specs.Stop.{feed}
use Rattle.surveys.specs.declared.finding.Finding.{Finding}
use Rattle.surveys.specs.declared.parts.PartError.{PartError}
use Rattle.surveys.specs.Lines.{line_text}
use Rattle.surveys.specs.Parts.{Adds, AddsAll, AreOf, IsFaulty, IsHeadLine, IsLine, IsOf, IsReadOn, IsSized, IsUnfed, IsWrong, StopsAt, found_in, row_text, cut_off, unknown, foreign, earlier, later}

-- A line up to its line feed, and including it.
same_ten : (c : ℕ) → c == 10 ≡ true → c ≡ 10
same_ten c e = grind (arith, nat_tests)

abbrev Upto : ℕ → List ℕ → Type 0
Upto n bytes = (front : List ℕ) × IsUnfed front × (take (n + 1) bytes ≡ front ++ 10 ∷ [])

pub line_ends : (bytes : List ℕ) → until feed bytes < length bytes → Upto (until feed bytes) bytes
line_ends [] lt = absurd (omega arith)
line_ends (c ∷ cs) lt = by (c == 10) refl (λ h. line_ends cs h) lt
  where
    by : (b : Bool) → c == 10 ≡ b → (until feed cs < length cs → Upto (until feed cs) cs)
        → cond b 0 (suc (until feed cs)) < suc (length cs) → Upto (cond b 0 (suc (until feed cs))) (c ∷ cs)
    by true e more lt = ([], refl, ap (λ x. x ∷ []) (same_ten c e))
    by false e more lt =
        let h = more (omega arith) in
        let n = until feed cs in
        let one : suc n + 1 ≡ suc (n + 1) = omega arith in
        (c ∷ h.0, and_from (not (c == 10)) (list_all (λ x. not (x == 10)) h.0) (ap not e) h.1, ap (λ k. take k (c ∷ cs)) one ∙ ap (λ (l : List ℕ). c ∷ l) h.2)

pub whole_line : (bytes line : List ℕ) → line ≡ take (until feed bytes + 1) bytes → until feed bytes < length bytes → IsLine line
whole_line bytes line is lt = let h = line_ends bytes lt in record { front = h.0; free = h.1; whole = is ∙ h.2 }

-- If a search finds no line feed in a text, the text has none.
pub unfed_all : (bytes : List ℕ) → length bytes ≤ until feed bytes → IsUnfed bytes
unfed_all [] le = refl
unfed_all (c ∷ cs) le = by (c == 10) refl (λ h. unfed_all cs h) le
  where
    by : (b : Bool) → c == 10 ≡ b → (length cs ≤ until feed cs → IsUnfed cs) → suc (length cs) ≤ cond b 0 (suc (until feed cs)) → IsUnfed (c ∷ cs)
    by true e more le = absurd (omega arith)
    by false e more le = and_from (not (c == 10)) (list_all (λ x. not (x == 10)) cs) (ap not e) (more (omega arith))

pub line_length : (line : List ℕ) → IsLine line → 0 < length line
line_length line h = (let e = ap length h.whole in let l = length-append h.front (10 ∷ []) in omega arith)

-- The text of rows and one more row.
texts_more : (head : List ℕ) (rows : List (Option Finding)) (row : Option Finding) → flat_map (row_text head) (rows ++ row ∷ []) ≡ flat_map (row_text head) rows ++ row_text head row
texts_more head [] row = append-nil (row_text head row)
texts_more head (r ∷ rows) row = ap (λ (l : List ℕ). row_text head r ++ l) (texts_more head rows row) ∙ sym (append_assoc (row_text head r) (flat_map (row_text head) rows) (row_text head row))

found_more : (rows more : List (Option Finding)) → found_in (rows ++ more) ≡ found_in rows ++ found_in more
found_more [] more = refl
found_more (None ∷ rows) more = found_more rows more
found_more (Some f ∷ rows) more = ap (λ (l : List Finding). f ∷ l) (found_more rows more)

pub all_both : {A : Type 0} (P : A → Type 0) (xs ys : List A) → AllByRecursion P xs → AllByRecursion P ys → AllByRecursion P (xs ++ ys)
all_both P [] ys h k = k
all_both P (x ∷ xs) ys h k = (h.0, all_both P xs ys h.1 k)

-- The lines up to here were read. The next line has this number.
pub record IsOn (head lines rest : List ℕ) (first last number : ℕ) (before now : List Finding) : Type 0 where
  pub rows : List (Option Finding)
  pub whole : lines ≡ flat_map (row_text head) rows ++ rest
  pub behind : now ≡ before ++ found_in rows
  pub seeds : AreOf first last (found_in rows)
  pub count : number ≡ length rows + 2
  pub few : length rows + length rest ≤ length lines

pub on_begins : (head lines : List ℕ) (first last : ℕ) (before : List Finding) → IsOn head lines lines first last 2 before before
on_begins head lines first last before = record { rows = []; whole = refl; behind = sym (append-nil before); seeds = tt; count = refl; few = omega arith }

pub on_goes : (head lines rest line more : List ℕ) (first last number next : ℕ) (before now after : List Finding) → IsOn head lines rest first last number before now → rest ≡ line ++ more → IsLine line → next ≡ number + 1
    → Adds head line first last now after → IsOn head lines more first last next before after
on_goes head lines rest line more first last number next before now after on cut is one adds =
    let new = on.rows ++ adds.row ∷ [] in
    let texts = flat_map (row_text head) on.rows in
    let P : List Finding → Type 0 = λ found. AreOf first last found in
    let longer = length-append on.rows (adds.row ∷ []) in
    let parts = ap length cut ∙ length-append line more in
    let some = line_length line is in
    let count = on.count in
    let few = on.few in
    record {
      rows = new;
      whole = on.whole ∙ (ap (λ (l : List ℕ). texts ++ l) (cut ∙ ap (λ (l : List ℕ). l ++ more) adds.text) ∙ (sym (append_assoc texts (row_text head adds.row) more) ∙ ap (λ (l : List ℕ). l ++ more) (sym (texts_more head on.rows adds.row))));
      behind = adds.behind ∙ (ap (λ (l : List Finding). l ++ found_in (adds.row ∷ [])) on.behind ∙ (append_assoc before (found_in on.rows) (found_in (adds.row ∷ [])) ∙ ap (λ (l : List Finding). before ++ l) (sym (found_more on.rows (adds.row ∷ [])))));
      seeds = subst P (sym (found_more on.rows (adds.row ∷ []))) (all_both (IsOf first last) (found_in on.rows) (found_in (adds.row ∷ [])) on.seeds adds.seeds);
      count = omega arith;
      few = omega arith;
    }

empty : {A : Type 0} (xs : List A) → length xs ≡ 0 → xs ≡ []
empty [] e = refl
empty (x ∷ xs) e = absurd (omega arith)

pub on_ends : (head lines rest : List ℕ) (first last number : ℕ) (before now : List Finding) → IsOn head lines rest first last number before now → length rest ≡ 0 → AddsAll head lines first last before now
on_ends head lines rest first last number before now on none =
    record { rows = on.rows; whole = on.whole ∙ (ap (λ (l : List ℕ). flat_map (row_text head) on.rows ++ l) (empty rest none) ∙ append-nil (flat_map (row_text head) on.rows)); behind = on.behind; seeds = on.seeds }

-- A line that is wrong by itself is also wrong before other lines.
fed : (front more : List ℕ) → IsUnfed (front ++ 10 ∷ more) → ⊥
fed [] more h = (let z : false ≡ true = h in cc)
fed (c ∷ cs) more h = fed cs more (and_parts (not (c == 10)) (list_all (λ x. not (x == 10)) (cs ++ 10 ∷ more)) h).1

pub line_fed : (line more : List ℕ) → IsLine line → IsUnfed (line ++ more) → ⊥
line_fed line more h k = fed h.front more (subst IsUnfed ((λ i. h.whole i ++ more) ∙ append_assoc h.front (10 ∷ []) more) k)

onto : (rest line more behind : List ℕ) → rest ≡ line ++ more → rest ++ behind ≡ line ++ (more ++ behind)
onto rest line more behind is = ap (λ (l : List ℕ). l ++ behind) is ∙ append_assoc line more behind

pub wrong_more : (head line behind : List ℕ) (first last number : ℕ) (e : PartError) → IsLine line → IsWrong head line first last number e → IsWrong head (line ++ behind) first last number e
wrong_more head line behind first last number _ whole (cut_off some none) = absurd (line_fed line [] whole (subst IsUnfed (sym (append-nil line)) none))
wrong_more head line behind first last number _ whole (unknown l more is one bare none) = unknown l (more ++ behind) (onto line l more behind is) one bare none
wrong_more head line behind first last number _ whole (foreign l more is one some other) = foreign l (more ++ behind) (onto line l more behind is) one some other
wrong_more head line behind first last number _ whole (earlier f more is one lt low) = earlier f (more ++ behind) (onto line (line_text f) more behind is) one lt low
wrong_more head line behind first last number _ whole (later f more is one lt high) = later f (more ++ behind) (onto line (line_text f) more behind is) one lt high

pub stops_at : (head lines rest : List ℕ) (first last number : ℕ) (before now after : List Finding) (e : PartError) → IsOn head lines rest first last number before now → after ≡ now → IsWrong head rest first last number e
    → StopsAt head lines first last before after e
stops_at head lines rest first last number before now after e on same wrong =
    record { rows = on.rows; rest = rest; whole = on.whole; behind = same ∙ on.behind; seeds = on.seeds; wrong = subst (λ (n : ℕ). IsWrong head rest first last n e) on.count wrong }

-- A line that repeats the head adds no result.
pub head_again : (head line : List ℕ) (first last : ℕ) (now : List Finding) → line ≡ head → Adds head line first last now now
head_again head line first last now e = record { row = None; text = e; behind = sym (append-nil now); seeds = tt }

pub one_more : (head line : List ℕ) (first last : ℕ) (f : Finding) (now after : List Finding) → line ≡ line_text f → first ≤ f.seed → f.seed ≤ last → IsSized f → after ≡ now ++ f ∷ [] → Adds head line first last now after
one_more head line first last f now after e low high sized is = record { row = Some f; text = e; behind = is; seeds = ((low, high, sized), tt) }

-- A head and the lines after it, which were read, are a further part of a survey.
pub read_on : (before head line behind bytes : List ℕ) (first last : ℕ) (old new : List Finding) → bytes ≡ line ++ behind → head ≡ line → IsHeadLine line → (before ≢ [] → head ≡ before) → AddsAll head behind first last old new → IsReadOn before head bytes first last old new
read_on before head line behind bytes first last old new cut is whole same adds =
    let P : List ℕ → Type 0 = λ l. IsHeadLine l in
    let some = line_length line whole.line in
    let long = length-append line behind in
    record {
      told = found_in adds.rows;
      further = record {
        part = record {
          rows = None ∷ adds.rows;
          led = subst P (sym is) whole;
          whole = cut ∙ ((λ i. sym is i ++ behind) ∙ ap (λ (l : List ℕ). head ++ l) adds.whole);
          told = refl;
        };
        same = same;
        seeds = adds.seeds;
      };
      unread = λ e. (let none = ap length e in let parts = ap length cut in absurd (omega (arith, none, parts, some, long)));
      behind = adds.behind;
    }

pub read_none : (head bytes : List ℕ) (first last : ℕ) (now : List Finding) → length bytes ≡ 0 → IsReadOn head head bytes first last now now
read_none head bytes first last now none =
    record {
      told = [];
      further = record { part = record { rows = []; led = tt; whole = empty bytes none; told = refl }; same = λ k. refl; seeds = tt };
      unread = λ e. refl;
      behind = sym (append-nil now);
    }

-- The first n bytes of a text that may be shorter.
pub take_min : (n : ℕ) (xs : List ℕ) → take (min (length xs) n) xs ≡ take n xs
take_min n xs = ⊎_elim
    (λ (lt : length xs < n). (let e : min (length xs) n ≡ length xs = omega arith in ap (λ k. take k xs) e ∙ (take_all (length xs) xs (omega arith) ∙ sym (take_all n xs (omega arith)))))
    (λ (le : n ≤ length xs). (let e : min (length xs) n ≡ n = omega arith in ap (λ k. take k xs) e))
    (cases_lt (length xs) n)

pub head_some : (head : List ℕ) → IsHeadLine head → head ≢ []
head_some head h e = let some = line_length head h.line in let none = ap length e in omega arith

-- If the first line is wrong, nothing of the text is read.
pub first_wrong : (head bytes : List ℕ) (first last : ℕ) (now : List Finding) (e : PartError) → IsWrong head bytes first last 1 e → IsFaulty head head bytes first last now now e
first_wrong head bytes first last now e wrong =
    record { rows = []; rest = bytes; led = tt; whole = refl; same = λ k. refl; unread = λ k. refl; behind = sym (append-nil now); seeds = tt; wrong = wrong }

-- If a line after the head is wrong, the lines before it are read.
pub wrong_behind_head : (before head line behind bytes : List ℕ) (first last : ℕ) (old new : List Finding) (e : PartError) → bytes ≡ line ++ behind → head ≡ line → IsHeadLine line → (before ≢ [] → head ≡ before) → StopsAt head behind first last old new e
    → IsFaulty before head bytes first last old new e
wrong_behind_head before head line behind bytes first last old new e cut is whole same st =
    let P : List ℕ → Type 0 = λ l. IsHeadLine l in
    let count : length st.rows + 2 ≡ suc (length st.rows) + 1 = omega arith in
    record {
      rows = None ∷ st.rows;
      rest = st.rest;
      led = subst P (sym is) whole;
      whole = cut ∙ ((λ i. sym is i ++ behind) ∙ (ap (λ (l : List ℕ). head ++ l) st.whole ∙ sym (append_assoc head (flat_map (row_text head) st.rows) st.rest)));
      same = same;
      unread = λ none. (let n = ap length none in absurd (omega arith));
      behind = st.behind;
      seeds = st.seeds;
      wrong = subst (λ (n : ℕ). IsWrong head st.rest first last n e) count st.wrong;
    }

pub not_empty : (xs : List ℕ) → false ≡ (length xs == 0) → xs ≢ []
not_empty xs h e = let z : false ≡ true = h ∙ ap (λ (l : List ℕ). length l == 0) e in cc

-- A part of a survey can be read in only one way, and a valid part has no fault.
use Rattle.std.proofs.Common.{ℕ, ◌+◌, ◌<◌, ◌≡◌, ◌≢◌, ◌^◌, Bool, true, false, List, [], ◌∷◌, ◌++◌, length, drop, refl, sym, ap, subst, ◌∙◌, arith, append_assoc, append-nil, length-append, Option, None, Some, codes}
use Rattle.std.specs.Prelude.{◌==◌, not, decimal, flat_map, IfErr, IfSome, OnOk, Result, Ok, Err}
use Rattle.std.specs.List.{AllByRecursion}
use Rattle.std.proofs.lemmas.Bool.Decides.{nat_tests}
use Rattle.text.specs.Parts.{before, from}
use Rattle.text.specs.Stop.{feed, is_within}
use Rattle.text.proofs.BytesLemmas.{all-append, all-weaker}
use Rattle.text.proofs.CutLemmas.{before-append, from-append}
use Rattle.text.proofs.DecimalLemmas.{digits-decimal}
use Rattle.surveys.specs.declared.finding.Finding.{Finding}
use Rattle.surveys.specs.declared.parts.PartError.{PartError}
use Rattle.surveys.specs.declared.parts.PartError.TheVariants.{Line, Family, Seed, Memory}
use Rattle.surveys.specs.Heads.{is_head}
use Rattle.surveys.specs.Lines.{AreNumbers, answer_text, flag_text, line_text, member}
use Rattle.surveys.specs.Parts.{AreOf, IsCampaign, IsFaulty, IsFurther, IsHeadLine, IsLed, IsLine, IsOf, IsReadOn, IsSized, IsUnfed, IsUntaken, IsWrong, StopsAt, found_in, row_text, cut_off, unknown, foreign, earlier, later, untold, unsized, too_early, too_late}
use Rattle.surveys.proofs.PartLemmas.{line_fed, line_length, wrong_behind_head}
use Rattle.surveys.proofs.Rereading.{same_findings}

-- ---- lines

-- If two texts that begin with a line are equal, the lines and the texts after them are equal.
pub same_lines : (l m x y : List ℕ) → IsLine l → IsLine m → l ++ x ≡ m ++ y → (l ≡ m) × (x ≡ y)
same_lines l m x y h k e =
    let a = h.front in
    let b = k.front in
    let both : a ++ 10 ∷ x ≡ b ++ 10 ∷ y = sym (append_assoc a (10 ∷ []) x) ∙ ((λ i. sym h.whole i ++ x) ∙ (e ∙ ((λ i. k.whole i ++ y) ∙ append_assoc b (10 ∷ []) y))) in
    let fronts : a ≡ b = sym (before-append feed a 10 x h.free refl) ∙ (ap (before feed) both ∙ before-append feed b 10 y k.free refl) in
    let rests : 10 ∷ x ≡ 10 ∷ y = sym (from-append feed a 10 x h.free refl) ∙ (ap (from feed) both ∙ from-append feed b 10 y k.free refl) in
    (h.whole ∙ (ap (λ (l : List ℕ). l ++ 10 ∷ []) fronts ∙ sym k.whole), ap (drop 1) rests)

pub member_line : (front w behind : List ℕ) → IsUnfed front → IsUnfed w → IsLine behind → IsLine (member front w behind)
member_line front w behind h k l =
    record {
      front = front ++ 58 ∷ (w ++ l.front);
      free = all-append (λ c. not (c == 10)) front (58 ∷ (w ++ l.front)) h (all-append (λ c. not (c == 10)) w l.front k l.free);
      whole = ap (λ (x : List ℕ). front ++ 58 ∷ (w ++ x)) l.whole ∙ (ap (λ (x : List ℕ). front ++ 58 ∷ x) (sym (append_assoc w l.front (10 ∷ []))) ∙ sym (append_assoc front (58 ∷ (w ++ l.front)) (10 ∷ [])));
    }

no_feed : (c : ℕ) → is_within 48 57 c ≡ true → not (c == 10) ≡ true
no_feed c h = grind (arith, nat_tests)

pub decimal_unfed : (n : ℕ) → n < 2 ^ 64 → IsUnfed (decimal n)
decimal_unfed n lt = all-weaker (is_within 48 57) (λ c. not (c == 10)) no_feed (decimal n) (digits-decimal n lt)

flag_unfed : (b : Bool) → IsUnfed (flag_text b)
flag_unfed true = refl
flag_unfed false = refl

answer_unfed : (a : Option Bool) → IsUnfed (answer_text a)
answer_unfed None = refl
answer_unfed (Some b) = flag_unfed b

pub numbers_of : (f : Finding) → IsCampaign f → AreNumbers f
numbers_of f h =
    let a = h.0.most in
    let b = h.0.rounds in
    let c = h.0.traitors in
    record { seed = h.1; generals = omega arith; bound = omega arith; traitors = omega arith }

-- If the line after a head describes no accepted result, it is a wrong line.
pub untaken_wrong : (head line : List ℕ) (first last number : ℕ) (told : Option Finding) (e : PartError) → IsLine line → is_head line ≡ false → 1 < number → IfSome told (λ f. line ≡ line_text f)
    → ((f : Finding) → AreNumbers f → line ≡ line_text f → told ≡ Some f) → IsUntaken first last number told e → IsWrong head line first last number e
untaken_wrong head line first last number _ _ is bare lt own back untold =
    unknown line [] (sym (append-nil line)) is bare (λ l f camp e. let none : None ≡ Some f = back f (numbers_of f camp) e in cc)
untaken_wrong head line first last number _ _ is bare lt own back (unsized x not) =
    unknown line [] (sym (append-nil line)) is bare (λ l f camp e. let same : Some x ≡ Some f = back f (numbers_of f camp) e in let x_f : x ≡ f = cc in not (subst IsSized (sym x_f) camp.0))
untaken_wrong head line first last number _ _ is bare lt own back (too_early f camp low) = earlier f [] (own ∙ sym (append-nil (line_text f))) camp lt low
untaken_wrong head line first last number _ _ is bare lt own back (too_late f camp high) = later f [] (own ∙ sym (append-nil (line_text f))) camp lt high

pub line_is : (f : Finding) → AreNumbers f → IsLine (line_text f)
line_is f h =
    let small : f.bound < 2 ^ 64 = (let q = h.bound in omega arith) in
    let few : f.generals < 2 ^ 64 = (let q = h.generals in omega arith) in
    let end : IsLine (codes "}\n") = record { front = 125 ∷ []; free = refl; whole = refl } in
    member_line (codes "{\"alike\"") (flag_text f.verdict.alike) _ refl (flag_unfed f.verdict.alike)
    (member_line (codes ",\"bound\"") (decimal f.bound) _ refl (decimal_unfed f.bound small)
    (member_line (codes ",\"generals\"") (decimal f.generals) _ refl (decimal_unfed f.generals few)
    (member_line (codes ",\"kept\"") (flag_text f.verdict.bound) _ refl (flag_unfed f.verdict.bound)
    (member_line (codes ",\"line\"") (codes "\"campaign\"") _ refl refl
    (member_line (codes ",\"obeyed\"") (answer_text f.verdict.obeyed) _ refl (answer_unfed f.verdict.obeyed)
    (member_line (codes ",\"seed\"") (decimal f.seed) _ refl (decimal_unfed f.seed h.seed)
    (member_line (codes ",\"traitors\"") (decimal f.traitors) _ refl (decimal_unfed f.traitors h.traitors) end)))))))

-- ---- rows

pub not_head : (f : Finding) → is_head (line_text f) ≡ false
not_head f = refl

true_false : {A : Type 0} (b : Bool) → b ≡ true → b ≡ false → A
true_false b t f = absurd (let z : true ≡ false = sym t ∙ f in cc)

head_or_line : {A : Type 0} (head : List ℕ) (f : Finding) → is_head head ≡ true → head ≡ line_text f → A
head_or_line head f h e = true_false (is_head head) h (ap is_head e ∙ not_head f)

pub row_line : (head : List ℕ) (r : Option Finding) → IsHeadLine head → IfSome r IsCampaign → IsLine (row_text head r)
row_line head None h c = h.line
row_line head (Some f) h c = line_is f (numbers_of f c)

same_row : (head : List ℕ) (r q : Option Finding) → IsHeadLine head → IfSome r IsCampaign → IfSome q IsCampaign → row_text head r ≡ row_text head q → r ≡ q
same_row head None None h c d e = refl
same_row head None (Some g) h c d e = head_or_line head g h.begins e
same_row head (Some f) None h c d e = head_or_line head f h.begins (sym e)
same_row head (Some f) (Some g) h c d e = ap Some (same_findings f g (numbers_of f c) (numbers_of g d) e)

one_of : (P : Finding → Type 0) (r : Option Finding) (rows : List (Option Finding)) → AllByRecursion P (found_in (r ∷ rows)) → IfSome r P × AllByRecursion P (found_in rows)
one_of P None rows h = (tt, h)
one_of P (Some f) rows h = h

later_of : (P : Finding → Type 0) (rows more : List (Option Finding)) → AllByRecursion P (found_in (rows ++ more)) → AllByRecursion P (found_in more)
later_of P [] more h = h
later_of P (r ∷ rows) more h = later_of P rows more (one_of P r (rows ++ more) h).1

campaigns_of : (first last : ℕ) (found : List Finding) → last < 2 ^ 64 → AreOf first last found → AllByRecursion IsCampaign found
campaigns_of first last [] lt h = tt
campaigns_of first last (f ∷ found) lt h = let top = h.0.1 in ((h.0.2, omega arith), campaigns_of first last found lt h.1)

nothing : {A : Type 0} (l x : List ℕ) → IsLine l → l ++ x ≡ [] → A
nothing l x h e = let some = line_length l h in let long = length-append l x in let none = ap length e in absurd (omega arith)

-- The text begins with these rows, and further rows follow.
pub record Beyond (head : List ℕ) (rows all : List (Option Finding)) (rest : List ℕ) : Type 0 where
  pub more : List (Option Finding)
  pub split : all ≡ rows ++ more
  pub left : rest ≡ flat_map (row_text head) more

pub walk : (head : List ℕ) (rows all : List (Option Finding)) (rest : List ℕ) → IsHeadLine head → AllByRecursion IsCampaign (found_in rows) → AllByRecursion IsCampaign (found_in all)
    → flat_map (row_text head) rows ++ rest ≡ flat_map (row_text head) all → Beyond head rows all rest
walk head [] all rest h a b e = record { more = all; split = refl; left = e }
walk head (r ∷ rows) [] rest h a b e =
    nothing (row_text head r) (flat_map (row_text head) rows ++ rest) (row_line head r h (one_of IsCampaign r rows a).0) (sym (append_assoc (row_text head r) (flat_map (row_text head) rows) rest) ∙ e)
walk head (r ∷ rows) (q ∷ all) rest h a b e =
    let c = one_of IsCampaign r rows a in
    let d = one_of IsCampaign q all b in
    let both = same_lines (row_text head r) (row_text head q) (flat_map (row_text head) rows ++ rest) (flat_map (row_text head) all) (row_line head r h c.0) (row_line head q h d.0)
    (sym (append_assoc (row_text head r) (flat_map (row_text head) rows) rest) ∙ e) in
    let w = walk head rows all rest h c.1 d.1 both.1 in
    let is = same_row head r q h c.0 d.0 both.0 in
    record { more = w.more; split = λ i. sym is i ∷ w.split i; left = w.left }

-- ---- a part has only one reading

same_none : (head : List ℕ) (more : List (Option Finding)) → IsHeadLine head → AllByRecursion IsCampaign (found_in more) → [] ≡ flat_map (row_text head) more → more ≡ []
same_none head [] h a e = refl
same_none head (r ∷ more) h a e = nothing (row_text head r) (flat_map (row_text head) more) (row_line head r h (one_of IsCampaign r more a).0) (sym e)

same_rows : (h k bytes : List ℕ) (rows all : List (Option Finding)) → IsLed h rows → IsLed k all → AllByRecursion IsCampaign (found_in rows) → AllByRecursion IsCampaign (found_in all)
    → bytes ≡ flat_map (row_text h) rows → bytes ≡ flat_map (row_text k) all → found_in rows ≡ found_in all
same_rows h k bytes [] [] l m a b e f = refl
same_rows h k bytes [] (Some g ∷ all) l m a b e f = absurd m
same_rows h k bytes (Some g ∷ rows) all l m a b e f = absurd l
same_rows h k bytes [] (None ∷ all) l m a b e f = nothing k (flat_map (row_text k) all) m.line (sym f ∙ e)
same_rows h k bytes (None ∷ rows) [] l m a b e f = nothing h (flat_map (row_text h) rows) l.line (sym e ∙ f)
same_rows h k bytes (None ∷ rows) (Some g ∷ all) l m a b e f = absurd m
same_rows h k bytes (None ∷ rows) (None ∷ all) l m a b e f =
    let both = same_lines h k (flat_map (row_text h) rows) (flat_map (row_text k) all) l.line m.line (sym e ∙ f) in
    let on : flat_map (row_text h) rows ++ [] ≡ flat_map (row_text h) all = append-nil (flat_map (row_text h) rows) ∙ (both.1 ∙ ap (λ (x : List ℕ). flat_map (row_text x) all) (sym both.0)) in
    let w = walk h rows all [] l a b on in
    let none = same_none h w.more l (later_of IsCampaign rows w.more (subst (λ (x : List (Option Finding)). AllByRecursion IsCampaign (found_in x)) w.split b)) w.left in
    let is : all ≡ rows = w.split ∙ (ap (λ (x : List (Option Finding)). rows ++ x) none ∙ append-nil rows) in
    ap found_in (sym is)

-- Two readings of a valid part have the same results.
pub told_once : (before h k bytes : List ℕ) (first last : ℕ) (told other : List Finding) → last < 2 ^ 64 → IsFurther before h bytes first last told → IsFurther before k bytes first last other → told ≡ other
told_once before h k bytes first last told other lt a b =
    let p = a.part in
    let q = b.part in
    p.told ∙ (same_rows h k bytes p.rows q.rows p.led q.led (campaigns_of first last (found_in p.rows) lt (subst (AreOf first last) p.told a.seeds)) (campaigns_of first last (found_in q.rows) lt (subst (AreOf first last) q.told b.seeds)) p.whole q.whole ∙ sym q.told)

-- ---- a valid part has no fault

less_than : {A : Type 0} (n : ℕ) → n < n → A
less_than n lt = absurd (omega arith)

-- A valid row is not wrong.
wrong_row : (head rest x : List ℕ) (first last number : ℕ) (r : Option Finding) (e : PartError) → last < 2 ^ 64 → IsHeadLine head → IfSome r (IsOf first last) → IfSome r IsCampaign → 1 < number → rest ≡ row_text head r ++ x → IsWrong head rest first last number e → ⊥
wrong_row head rest x first last number r _ lt h o c one is (cut_off some none) = line_fed (row_text head r) x (row_line head r h c) (subst IsUnfed is none)
wrong_row head rest x first last number None _ lt h o c one is (unknown line more at l bare none) =
    true_false (is_head head) h.begins (ap is_head (sym (same_lines line head more x l h.line (sym at ∙ is)).0) ∙ bare)
wrong_row head rest x first last number (Some f) _ lt h o c one is (unknown line more at l bare none) =
    none one f c (same_lines line (line_text f) more x l (line_is f (numbers_of f c)) (sym at ∙ is)).0
wrong_row head rest x first last number None _ lt h o c one is (foreign line more at l some other) = other (same_lines line head more x l.line h.line (sym at ∙ is)).0
wrong_row head rest x first last number (Some f) _ lt h o c one is (foreign line more at l some other) =
    head_or_line line f l.begins (same_lines line (line_text f) more x l.line (line_is f (numbers_of f c)) (sym at ∙ is)).0
wrong_row head rest x first last number None _ lt h o c one is (earlier f more at d two low) =
    head_or_line head f h.begins (sym (same_lines (line_text f) head more x (line_is f (numbers_of f d)) h.line (sym at ∙ is)).0)
wrong_row head rest x first last number (Some g) _ lt h o c one is (earlier f more at d two low) =
    let same = same_findings f g (numbers_of f d) (numbers_of g c) (same_lines (line_text f) (line_text g) more x (line_is f (numbers_of f d)) (line_is g (numbers_of g c)) (sym at ∙ is)).0 in
    let seeds : f.seed ≡ g.seed = ap (λ (y : Finding). y.seed) same in
    let bottom = o.0 in
    absurd (omega arith)
wrong_row head rest x first last number None _ lt h o c one is (later f more at d two high) =
    head_or_line head f h.begins (sym (same_lines (line_text f) head more x (line_is f (numbers_of f d)) h.line (sym at ∙ is)).0)
wrong_row head rest x first last number (Some g) _ lt h o c one is (later f more at d two high) =
    let same = same_findings f g (numbers_of f d) (numbers_of g c) (same_lines (line_text f) (line_text g) more x (line_is f (numbers_of f d)) (line_is g (numbers_of g c)) (sym at ∙ is)).0 in
    let seeds : f.seed ≡ g.seed = ap (λ (y : Finding). y.seed) same in
    let top = o.1 in
    absurd (omega arith)

-- The end of the text is not wrong.
wrong_end : (head rest : List ℕ) (first last number : ℕ) (e : PartError) → rest ≡ [] → IsWrong head rest first last number e → ⊥
wrong_end head rest first last number _ none (cut_off some bare) = some none
wrong_end head rest first last number _ none (unknown line more at l bare none') = nothing line more l (sym at ∙ none)
wrong_end head rest first last number _ none (foreign line more at l some other) = nothing line more l.line (sym at ∙ none)
wrong_end head rest first last number _ none (earlier f more at c one low) = nothing (line_text f) more (line_is f (numbers_of f c)) (sym at ∙ none)
wrong_end head rest first last number _ none (later f more at c one high) = nothing (line_text f) more (line_is f (numbers_of f c)) (sym at ∙ none)

-- The head in the first line is not wrong.
wrong_first : (head h rest x : List ℕ) (first last : ℕ) (e : PartError) → IsHeadLine h → (head ≢ [] → h ≡ head) → rest ≡ h ++ x → IsWrong head rest first last 1 e → ⊥
wrong_first head h rest x first last _ l same is (cut_off some none) = line_fed h x l.line (subst IsUnfed is none)
wrong_first head h rest x first last _ l same is (unknown line more at m bare none) = true_false (is_head h) l.begins (ap is_head (sym (same_lines line h more x m l.line (sym at ∙ is)).0) ∙ bare)
wrong_first head h rest x first last _ l same is (foreign line more at m some other) = other ((same_lines line h more x m.line l.line (sym at ∙ is)).0 ∙ same some)
wrong_first head h rest x first last _ l same is (earlier f more at c one low) = less_than 1 one
wrong_first head h rest x first last _ l same is (later f more at c one high) = less_than 1 one

wrong_behind : (head rest : List ℕ) (first last number : ℕ) (rows more all : List (Option Finding)) (e : PartError) → last < 2 ^ 64 → IsHeadLine head → AreOf first last (found_in all) → all ≡ rows ++ more → rest ≡ flat_map (row_text head) more → 1 < number
    → IsWrong head rest first last number e → ⊥
wrong_behind head rest first last number rows [] all e lt h o split left one wrong = wrong_end head rest first last number e left wrong
wrong_behind head rest first last number rows (r ∷ more) all e lt h o split left one wrong =
    let of = later_of (IsOf first last) rows (r ∷ more) (subst (λ (x : List (Option Finding)). AreOf first last (found_in x)) split o) in
    let a = one_of (IsOf first last) r more of in
    let b = one_of IsCampaign r more (campaigns_of first last (found_in (r ∷ more)) lt of) in
    wrong_row head rest (flat_map (row_text head) more) first last number r e lt h a.0 b.0 one left wrong

never : (before head h bytes rest : List ℕ) (first last : ℕ) (rows all : List (Option Finding)) (e : PartError) → last < 2 ^ 64 → IsLed head rows → IsLed h all → AreOf first last (found_in rows) → AreOf first last (found_in all)
    → (before ≢ [] → h ≡ before) → (rows ≡ [] → head ≡ before) → bytes ≡ flat_map (row_text head) rows ++ rest → bytes ≡ flat_map (row_text h) all → IsWrong head rest first last (length rows + 1) e → ⊥
never before head h bytes rest first last rows (Some g ∷ all) e lt l m a b same unread whole is wrong = absurd m
never before head h bytes rest first last (Some g ∷ rows) all e lt l m a b same unread whole is wrong = absurd l
never before head h bytes rest first last [] [] e lt l m a b same unread whole is wrong = wrong_end head rest first last 1 e (sym whole ∙ is) wrong
never before head h bytes rest first last [] (None ∷ all) e lt l m a b same unread whole is wrong =
    wrong_first head h rest (flat_map (row_text h) all) first last e m (λ some. same (λ none. some (unread refl ∙ none)) ∙ sym (unread refl)) (sym whole ∙ is) wrong
never before head h bytes rest first last (None ∷ rows) [] e lt l m a b same unread whole is wrong =
    nothing head (flat_map (row_text head) rows ++ rest) l.line (sym (append_assoc head (flat_map (row_text head) rows) rest) ∙ (sym whole ∙ is))
never before head h bytes rest first last (None ∷ rows) (None ∷ all) e lt l m a b same unread whole is wrong =
    let both = same_lines head h (flat_map (row_text head) rows ++ rest) (flat_map (row_text h) all) l.line m.line (sym (append_assoc head (flat_map (row_text head) rows) rest) ∙ (sym whole ∙ is)) in
    let on = both.1 ∙ ap (λ (x : List ℕ). flat_map (row_text x) all) (sym both.0) in
    let w = walk head rows all rest l (campaigns_of first last (found_in rows) lt a) (campaigns_of first last (found_in all) lt b) on in
    wrong_behind head rest first last (length (None ∷ rows) + 1) rows w.more all e lt l b w.split w.left (omega arith) wrong

-- A valid part has no fault.
pub never_faulty : (before head h bytes : List ℕ) (first last : ℕ) (old new told : List Finding) (e : PartError) → last < 2 ^ 64 → IsFurther before h bytes first last told → IsFaulty before head bytes first last old new e → ⊥
never_faulty before head h bytes first last old new told e lt a f =
    let p = a.part in
    never before head h bytes f.rest first last f.rows p.rows e lt f.led p.led f.seeds (subst (AreOf first last) p.told a.seeds) a.same f.unread f.whole p.whole f.wrong

pub must_be_memory : (e : PartError) → (e ≢ Memory → ⊥) → e ≡ Memory
must_be_memory (Line n) h = absurd (h (λ k. (let z : Line n ≡ Memory = k in cc)))
must_be_memory (Family n) h = absurd (h (λ k. (let z : Family n ≡ Memory = k in cc)))
must_be_memory (Seed n s) h = absurd (h (λ k. (let z : Seed n s ≡ Memory = k in cc)))
must_be_memory Memory h = refl

-- So the result of reading a valid part is no error, except out of memory.
pub taken_by : {A : Type 0} (before head h bytes : List ℕ) (first last : ℕ) (old new told : List Finding) (r : Result A PartError) → last < 2 ^ 64 → IsFurther before h bytes first last told
    → IfErr r (λ e. e ≢ Memory → IsFaulty before head bytes first last old new e) → IfErr r (λ e. e ≡ Memory)
taken_by before head h bytes first last old new told (Ok x) lt f w = tt
taken_by before head h bytes first last old new told (Err e) lt f w = must_be_memory e (λ other. never_faulty before head h bytes first last old new told e lt f (w other))

pub told_by : {A : Type 0} (before head h bytes : List ℕ) (first last : ℕ) (old new told : List Finding) (r : Result A PartError) → last < 2 ^ 64 → IsFurther before h bytes first last told
    → OnOk r (IsReadOn before head bytes first last old new) → OnOk r (new ≡ old ++ told)
told_by before head h bytes first last old new told (Ok x) lt f read = read.behind ∙ ap (λ (l : List Finding). old ++ l) (told_once before head h bytes first last read.told told lt read.further f)
told_by before head h bytes first last old new told (Err e) lt f read = tt

pub wrong_by : {A : Type 0} (before head line behind bytes : List ℕ) (first last : ℕ) (old new : List Finding) (r : Result A PartError) → bytes ≡ line ++ behind → head ≡ line → IsHeadLine line → (before ≢ [] → head ≡ before)
    → IfErr r (λ e. e ≢ Memory → StopsAt head behind first last old new e) → IfErr r (λ e. e ≢ Memory → IsFaulty before head bytes first last old new e)
wrong_by before head line behind bytes first last old new (Ok x) cut is whole same w = tt
wrong_by before head line behind bytes first last old new (Err e) cut is whole same w = λ other. wrong_behind_head before head line behind bytes first last old new e cut is whole same (w other)

-- Families with the same head draw the same campaigns.
use Rattle.std.proofs.Common.{ℕ, ◌+◌, ◌≡◌, ◌<◌, ◌^◌, true, false, List, [], ◌∷◌, ◌++◌, ◌%◌, drop, refl, sym, ap, ◌∙◌, arith, append_assoc, codes, Option, None, Some}
use Rattle.std.specs.Prelude.{Bool, cond, decimal, bytes_eq, IfSome, not, string_bytes, map, take, ◌==◌}
use Rattle.std.proofs.lemmas.Bool.Decides.{nat_tests}
use Rattle.std.proofs.lemmas.List.{append_cancel_right}
use Rattle.text.specs.Number.{decimal_of}
use Rattle.text.specs.Stop.{comma}
use Rattle.text.specs.declared.stop.Stop.TheVariants.{Byte}
use Rattle.text.proofs.CutLemmas.{Lacks}
use Rattle.text.proofs.DecimalLemmas.{decimal_of-decimal}
use Rattle.combine.specs.declared.campaign_rule.Rule.{Rule}
use Rattle.combine.specs.Rule.{rule_name}
use Rattle.combine.specs.Names.{rule_named}
use Rattle.combine.proofs.RuleLaws.{name_read}
use Rattle.book.proofs.RuleNames.{name_lacks_comma}
use Rattle.text.specs.Stop.{is_stop}
use Rattle.text.proofs.BytesLemmas.{all-append}
use Rattle.surveys.specs.declared.adversary.Adversary.{Adversary}
use Rattle.surveys.specs.declared.adversary.Adversary.TheVariants.{Lies, Silent, Collude, Given}
use Rattle.surveys.specs.declared.manner.Manner.{Manner}
use Rattle.surveys.specs.declared.manner.Manner.TheVariants.{Oral, Signed}
use Rattle.surveys.specs.declared.span.CountRange.{CountRange}
use Rattle.surveys.specs.Draws.{draw}
use Rattle.surveys.specs.Family.{Family}
use Rattle.surveys.specs.Lines.{member}
use Rattle.surveys.specs.Heads.{HeadsTellFamilies, IsHead, IsTold, adversary_word, commander_text, head_text, line_word, manner_word, orders_text, patience_word}
use Rattle.surveys.specs.Plotting.{bound_of, chosen, commander_of, count_of, do_count, generals_of, given_in, lies_by, plot_of}
use Rattle.surveys.specs.Wording.{campaign_text, plot_text}
use Rattle.surveys.proofs.Cuts.{decimal_lacks_brace, decimal_lacks_comma, same_rest, same_word}

-- ---- the text of a head after each member

abbrev from_low : Family → List ℕ
from_low f = member (codes ",\"traitors_low\"") (decimal f.traitors.low) (codes "}\n")

abbrev from_high : Family → List ℕ
from_high f = member (codes ",\"traitors_high\"") (decimal f.traitors.high) (from_low f)

abbrev from_patience : Family → List ℕ
from_patience f = member (codes ",\"patience\"") (patience_word f.patience) (from_high f)

abbrev from_orders : Family → List ℕ
from_orders f = orders_text f.orders ++ from_patience f

abbrev from_manner : Family → List ℕ
from_manner f = member (codes ",\"manner\"") (manner_word f.manner) (from_orders f)

abbrev from_line : Family → List ℕ
from_line f = member (codes ",\"line\"") (line_word f.grid) (from_manner f)

abbrev from_fewest : Family → List ℕ
from_fewest f = member (codes ",\"generals_low\"") (decimal f.generals.low) (from_line f)

abbrev from_most : Family → List ℕ
from_most f = member (codes ",\"generals_high\"") (decimal f.generals.high) (from_fewest f)

abbrev from_commander : Family → List ℕ
from_commander f = commander_text f.commander ++ from_most f

abbrev from_least : Family → List ℕ
from_least f = member (codes ",\"bound_low\"") (decimal f.bound.low) (from_commander f)

abbrev from_bound : Family → List ℕ
from_bound f = member (codes ",\"bound_high\"") (decimal f.bound.high) (from_least f)

-- ---- the values of the members contain no comma

manner_lacks : (m : Manner) → Lacks comma (manner_word m)
manner_lacks (Oral rule) = all-append (λ c. not (is_stop comma c)) (codes "\"") (rule_name rule ++ codes "\"") refl (all-append (λ c. not (is_stop comma c)) (rule_name rule) (codes "\"") (name_lacks_comma rule) refl)
manner_lacks Signed = refl

line_lacks : (b : Bool) → Lacks comma (line_word b)
line_lacks true = refl
line_lacks false = refl

patience_lacks : (p : Option ℕ) → IfSome p (λ steps. steps < 2 ^ 64) → Lacks comma (patience_word p)
patience_lacks None h = refl
patience_lacks (Some steps) h = decimal_lacks_comma steps h

-- Numbers with the same digits are equal.
same_number : (n m : ℕ) → n < 2 ^ 64 → m < 2 ^ 64 → decimal n ≡ decimal m → n ≡ m
same_number n m few less e =
    let a = decimal_of-decimal n few in
    let b = decimal_of-decimal m less in
    let c = ap decimal_of e in
    cc

unlike : {A : Type 0} (xs ys zs : List ℕ) → bytes_eq xs zs ≡ true → bytes_eq ys zs ≡ false → xs ≡ ys → A
unlike xs ys zs like other e = let same = ap (λ l. bytes_eq l zs) e in absurd (let z : true ≡ false = sym like ∙ (same ∙ other) in cc)

-- If two words in quotation marks are equal, the words are equal.
unquoted : (xs ys : List ℕ) → codes "\"" ++ (xs ++ codes "\"") ≡ codes "\"" ++ (ys ++ codes "\"") → xs ≡ ys
unquoted xs ys e = append_cancel_right xs ys (codes "\"") (ap (drop 1) e)

-- No rule has the name `signed`.
no_rule : {A : Type 0} (rule : Rule) → rule_name rule ≡ codes "signed" → A
no_rule rule e = let so : Some rule ≡ rule_named (codes "signed") = sym (name_read rule) ∙ ap rule_named e in absurd (let z : Some rule ≡ None = so in cc)

same_grid : (a b : Bool) → line_word a ≡ line_word b → a ≡ b
same_grid true true e = refl
same_grid true false e = unlike (codes "\"grid\"") (codes "\"family\"") (codes "\"grid\"") refl refl e
same_grid false true e = unlike (codes "\"family\"") (codes "\"grid\"") (codes "\"family\"") refl refl e
same_grid false false e = refl

same_manner : (m k : Manner) → manner_word m ≡ manner_word k → m ≡ k
same_manner (Oral rule) (Oral other) e =
    let read = ap rule_named (unquoted (rule_name rule) (rule_name other) e) in
    let so : Some rule ≡ Some other = sym (name_read rule) ∙ (read ∙ name_read other) in
    let same : rule ≡ other = cc in
    ap Oral same
same_manner (Oral rule) Signed e = no_rule rule (unquoted (rule_name rule) (codes "signed") e)
same_manner Signed (Oral rule) e = no_rule rule (unquoted (rule_name rule) (codes "signed") (sym e))
same_manner Signed Signed e = refl

same_patience : (p q : Option ℕ) → IfSome p (λ steps. steps < 2 ^ 64) → IfSome q (λ steps. steps < 2 ^ 64) → patience_word p ≡ patience_word q → p ≡ q
unfolding decimal_of
same_patience None None h k e = refl
same_patience None (Some n) h k e = (let a = decimal_of-decimal n k in let b : None ≡ decimal_of (decimal n) = ap decimal_of e in absurd (let z : None ≡ Some n = b ∙ a in cc))
same_patience (Some n) None h k e = (let a = decimal_of-decimal n h in let b : decimal_of (decimal n) ≡ None = ap decimal_of e in absurd (let z : None ≡ Some n = sym b ∙ a in cc))
same_patience (Some n) (Some m) h k e = ap Some (same_number n m h k e)

-- Adversaries with the same word in the head draw the same.
pub record DoSame (a b : Adversary) : Type 0 where
  pub given : given_in a ≡ given_in b
  pub counts : do_count a ≡ do_count b
  pub lies : (m : Manner) (v c seed n g : ℕ) → lies_by a m v c seed n g ≡ lies_by b m v c seed n g

same_deeds : (a b : Adversary) → adversary_word a ≡ adversary_word b → DoSame a b
same_deeds Lies Lies e = record { given = refl; counts = refl; lies = λ m v c seed n g. refl }
same_deeds Lies Silent e = unlike (codes "\"lies\"") (codes "\"silent\"") (codes "\"lies\"") refl refl e
same_deeds Lies Collude e = unlike (codes "\"lies\"") (codes "\"collude\"") (codes "\"lies\"") refl refl e
same_deeds Lies (Given k) e = unlike (codes "\"lies\"") (codes "\"0x" ++ (string_bytes k ++ codes "\"")) (codes "\"lies\"") refl refl e
same_deeds Silent Lies e = unlike (codes "\"silent\"") (codes "\"lies\"") (codes "\"silent\"") refl refl e
same_deeds Silent Silent e = record { given = refl; counts = refl; lies = λ m v c seed n g. refl }
same_deeds Silent Collude e = unlike (codes "\"silent\"") (codes "\"collude\"") (codes "\"silent\"") refl refl e
same_deeds Silent (Given k) e = unlike (codes "\"silent\"") (codes "\"0x" ++ (string_bytes k ++ codes "\"")) (codes "\"silent\"") refl refl e
same_deeds Collude Lies e = unlike (codes "\"collude\"") (codes "\"lies\"") (codes "\"collude\"") refl refl e
same_deeds Collude Silent e = unlike (codes "\"collude\"") (codes "\"silent\"") (codes "\"collude\"") refl refl e
same_deeds Collude Collude e = record { given = refl; counts = refl; lies = λ m v c seed n g. refl }
same_deeds Collude (Given k) e = unlike (codes "\"collude\"") (codes "\"0x" ++ (string_bytes k ++ codes "\"")) (codes "\"collude\"") refl refl e
same_deeds (Given h) Lies e = unlike (codes "\"lies\"") (codes "\"0x" ++ (string_bytes h ++ codes "\"")) (codes "\"lies\"") refl refl (sym e)
same_deeds (Given h) Silent e = unlike (codes "\"silent\"") (codes "\"0x" ++ (string_bytes h ++ codes "\"")) (codes "\"silent\"") refl refl (sym e)
same_deeds (Given h) Collude e = unlike (codes "\"collude\"") (codes "\"0x" ++ (string_bytes h ++ codes "\"")) (codes "\"collude\"") refl refl (sym e)
same_deeds (Given h) (Given k) e =
    let more : string_bytes h ++ 34 ∷ [] ≡ string_bytes k ++ 34 ∷ [] = ap (drop 3) e in
    record { given = ap Some (append_cancel_right (string_bytes h) (string_bytes k) (34 ∷ []) more); counts = refl; lies = λ m v c seed n g. refl }

-- Families with the same ranges and choices draw the same campaign from a seed.
same_plot : (f g : Family) (seed : ℕ) → f.generals ≡ g.generals → f.bound ≡ g.bound → f.traitors ≡ g.traitors → f.commander ≡ g.commander → f.orders ≡ g.orders → f.grid ≡ g.grid → f.manner ≡ g.manner → f.patience ≡ g.patience → DoSame f.adversary g.adversary → plot_of f seed ≡ plot_of g seed
unfolding plot_of
same_plot f g seed generals bound traitors commander orders grid manner patience same =
    let h : Family = record g { adversary = f.adversary } in
    let one : f ≡ h = (λ i. record { generals = generals i; bound = bound i; traitors = traitors i; commander = commander i; orders = orders i; grid = grid i; manner = manner i; patience = patience i; adversary = f.adversary }) in
    let two : plot_of h seed ≡ plot_of g seed = (λ i. record {
      generals = generals_of g seed;
      bound = bound_of g seed;
      commander = commander_of g (generals_of g seed);
      order = draw seed 3 % (g.orders + 1);
      manner = g.manner;
      patience = g.patience;
      given = same.given i;
      traitors = map (λ x. record { general = x; counts = same.counts i; lies = same.lies g.manner g.orders (commander_of g (generals_of g seed)) seed (generals_of g seed) x i }) (chosen seed 0 (generals_of g seed) (count_of g seed));
    }) in
    ap (λ (x : Family). plot_of x seed) one ∙ two

span_of : (a b : CountRange) → a.low ≡ b.low → a.high ≡ b.high → a ≡ b
span_of a b low high = λ i. record { low = low i; high = high i }

small : (n : ℕ) → n < 256 → n < 2 ^ 64
small n lt = omega arith

small_lacks : (n : ℕ) → n < 256 → Lacks comma (decimal n)
small_lacks n lt = decimal_lacks_comma n (small n lt)

-- The member `commander`, which is left out if it is 0, and the text after it.
zero_is : (a : ℕ) → a == 0 ≡ true → a ≡ 0
zero_is a h = grind (arith, nat_tests)

begins_so : (b : Bool) (c : ℕ) (behind : List ℕ) → (more : List ℕ) × (cond b [] (codes ",\"commander\":" ++ decimal c) ++ 44 ∷ behind ≡ 44 ∷ more)
begins_so true c behind = (behind, refl)
begins_so false c behind = (drop 1 (codes ",\"commander\":" ++ (decimal c ++ 44 ∷ behind)), refl)

unlike_members : {A : Type 0} (xs ys : List ℕ) → 44 ∷ 34 ∷ 103 ∷ xs ≡ 44 ∷ 34 ∷ 99 ∷ ys → A
unlike_members xs ys e = absurd (let z : true ≡ false = ap (λ l. bytes_eq (take 3 l) (44 ∷ 34 ∷ 103 ∷ [])) e in cc)

same_commander : (p q : Bool) (a b : ℕ) (xs ys : List ℕ) → a == 0 ≡ p → b == 0 ≡ q → a < 256 → b < 256
    → cond p [] (codes ",\"commander\":" ++ decimal a) ++ 44 ∷ 34 ∷ 103 ∷ xs ≡ cond q [] (codes ",\"commander\":" ++ decimal b) ++ 44 ∷ 34 ∷ 103 ∷ ys → (a ≡ b) × (44 ∷ 34 ∷ 103 ∷ xs ≡ 44 ∷ 34 ∷ 103 ∷ ys)
same_commander true true a b xs ys ha hb la lb e = (zero_is a ha ∙ sym (zero_is b hb), e)
same_commander true false a b xs ys ha hb la lb e = unlike_members _ _ e
same_commander false true a b xs ys ha hb la lb e = unlike_members _ _ (sym e)
same_commander false false a b xs ys ha hb la lb e = (
  same_number a b (small a la) (small b lb) (same_word comma (codes ",\"commander\"") (decimal a) (decimal b) 44 _ _ refl (small_lacks a la) (small_lacks b lb) refl e),
  same_rest comma (codes ",\"commander\"") (decimal a) (decimal b) 44 _ _ refl (small_lacks a la) (small_lacks b lb) refl e,
)

-- The member `orders`, which is left out if it is 1, and the text after it.
one_is : (a : ℕ) → a == 1 ≡ true → a ≡ 1
one_is a h = grind (arith, nat_tests)

goes_on : (b : Bool) (v : ℕ) (behind : List ℕ) → (more : List ℕ) × (cond b [] (codes ",\"orders\":" ++ decimal v) ++ 44 ∷ behind ≡ 44 ∷ more)
goes_on true v behind = (behind, refl)
goes_on false v behind = (drop 1 (codes ",\"orders\":" ++ (decimal v ++ 44 ∷ behind)), refl)

unlike_orders : {A : Type 0} (xs ys : List ℕ) → 44 ∷ 34 ∷ 112 ∷ xs ≡ 44 ∷ 34 ∷ 111 ∷ ys → A
unlike_orders xs ys e = absurd (let z : true ≡ false = ap (λ l. bytes_eq (take 3 l) (44 ∷ 34 ∷ 112 ∷ [])) e in cc)

same_orders : (p q : Bool) (a b : ℕ) (xs ys : List ℕ) → a == 1 ≡ p → b == 1 ≡ q → a < 256 → b < 256
    → cond p [] (codes ",\"orders\":" ++ decimal a) ++ 44 ∷ 34 ∷ 112 ∷ xs ≡ cond q [] (codes ",\"orders\":" ++ decimal b) ++ 44 ∷ 34 ∷ 112 ∷ ys → (a ≡ b) × (44 ∷ 34 ∷ 112 ∷ xs ≡ 44 ∷ 34 ∷ 112 ∷ ys)
same_orders true true a b xs ys ha hb la lb e = (one_is a ha ∙ sym (one_is b hb), e)
same_orders true false a b xs ys ha hb la lb e = unlike_orders _ _ e
same_orders false true a b xs ys ha hb la lb e = unlike_orders _ _ (sym e)
same_orders false false a b xs ys ha hb la lb e = (
  same_number a b (small a la) (small b lb) (same_word comma (codes ",\"orders\"") (decimal a) (decimal b) 44 _ _ refl (small_lacks a la) (small_lacks b lb) refl e),
  same_rest comma (codes ",\"orders\"") (decimal a) (decimal b) 44 _ _ refl (small_lacks a la) (small_lacks b lb) refl e,
)

pub same_families : (f g : Family) (seed : ℕ) → IsTold f → IsTold g → head_text f ≡ head_text g → campaign_text f seed ≡ campaign_text g seed
same_families f g seed hf hg e =
    let adversary : adversary_word f.adversary ≡ adversary_word g.adversary = same_word comma (codes "{\"adversary\"") (adversary_word f.adversary) (adversary_word g.adversary) 44 _ _ refl hf.adversary hg.adversary refl e in
    let e1 : from_bound f ≡ from_bound g = same_rest comma (codes "{\"adversary\"") (adversary_word f.adversary) (adversary_word g.adversary) 44 _ _ refl hf.adversary hg.adversary refl e in
    let bound_high = same_number f.bound.high g.bound.high (small f.bound.high hf.bound.1) (small g.bound.high hg.bound.1) (same_word comma (codes ",\"bound_high\"") (decimal f.bound.high) (decimal g.bound.high) 44 _ _ refl (small_lacks f.bound.high hf.bound.1) (small_lacks g.bound.high hg.bound.1) refl e1) in
    let e2 : from_least f ≡ from_least g = same_rest comma (codes ",\"bound_high\"") (decimal f.bound.high) (decimal g.bound.high) 44 _ _ refl (small_lacks f.bound.high hf.bound.1) (small_lacks g.bound.high hg.bound.1) refl e1 in
    let ours = begins_so (f.commander == 0) f.commander (drop 1 (from_most f)) in
    let theirs = begins_so (g.commander == 0) g.commander (drop 1 (from_most g)) in
    let least : member (codes ",\"bound_low\"") (decimal f.bound.low) (44 ∷ ours.0) ≡ member (codes ",\"bound_low\"") (decimal g.bound.low) (44 ∷ theirs.0) =
    sym (ap (λ (l : List ℕ). member (codes ",\"bound_low\"") (decimal f.bound.low) l) ours.1) ∙ (e2 ∙ ap (λ (l : List ℕ). member (codes ",\"bound_low\"") (decimal g.bound.low) l) theirs.1) in
    let bound_low = same_number f.bound.low g.bound.low (small f.bound.low hf.bound.0) (small g.bound.low hg.bound.0) (same_word comma (codes ",\"bound_low\"") (decimal f.bound.low) (decimal g.bound.low) 44 _ _ refl (small_lacks f.bound.low hf.bound.0) (small_lacks g.bound.low hg.bound.0) refl least) in
    let behind = same_rest comma (codes ",\"bound_low\"") (decimal f.bound.low) (decimal g.bound.low) 44 _ _ refl (small_lacks f.bound.low hf.bound.0) (small_lacks g.bound.low hg.bound.0) refl least in
    let commands : from_commander f ≡ from_commander g = ours.1 ∙ (behind ∙ sym theirs.1) in
    let commanders = same_commander (f.commander == 0) (g.commander == 0) f.commander g.commander (drop 3 (from_most f)) (drop 3 (from_most g)) refl refl hf.commander hg.commander commands in
    let e3 : from_most f ≡ from_most g = commanders.1 in
    let generals_high = same_number f.generals.high g.generals.high (small f.generals.high hf.generals.1) (small g.generals.high hg.generals.1) (same_word comma (codes ",\"generals_high\"") (decimal f.generals.high) (decimal g.generals.high) 44 _ _ refl (small_lacks f.generals.high hf.generals.1) (small_lacks g.generals.high hg.generals.1) refl e3) in
    let e4 : from_fewest f ≡ from_fewest g = same_rest comma (codes ",\"generals_high\"") (decimal f.generals.high) (decimal g.generals.high) 44 _ _ refl (small_lacks f.generals.high hf.generals.1) (small_lacks g.generals.high hg.generals.1) refl e3 in
    let generals_low = same_number f.generals.low g.generals.low (small f.generals.low hf.generals.0) (small g.generals.low hg.generals.0) (same_word comma (codes ",\"generals_low\"") (decimal f.generals.low) (decimal g.generals.low) 44 _ _ refl (small_lacks f.generals.low hf.generals.0) (small_lacks g.generals.low hg.generals.0) refl e4) in
    let e5 : from_line f ≡ from_line g = same_rest comma (codes ",\"generals_low\"") (decimal f.generals.low) (decimal g.generals.low) 44 _ _ refl (small_lacks f.generals.low hf.generals.0) (small_lacks g.generals.low hg.generals.0) refl e4 in
    let grid = same_grid f.grid g.grid (same_word comma (codes ",\"line\"") (line_word f.grid) (line_word g.grid) 44 _ _ refl (line_lacks f.grid) (line_lacks g.grid) refl e5) in
    let e6 : from_manner f ≡ from_manner g = same_rest comma (codes ",\"line\"") (line_word f.grid) (line_word g.grid) 44 _ _ refl (line_lacks f.grid) (line_lacks g.grid) refl e5 in
    let our_orders = goes_on (f.orders == 1) f.orders (drop 1 (from_patience f)) in
    let their_orders = goes_on (g.orders == 1) g.orders (drop 1 (from_patience g)) in
    let ruled : member (codes ",\"manner\"") (manner_word f.manner) (44 ∷ our_orders.0) ≡ member (codes ",\"manner\"") (manner_word g.manner) (44 ∷ their_orders.0) =
    sym (ap (λ (l : List ℕ). member (codes ",\"manner\"") (manner_word f.manner) l) our_orders.1) ∙ (e6 ∙ ap (λ (l : List ℕ). member (codes ",\"manner\"") (manner_word g.manner) l) their_orders.1) in
    let manner = same_manner f.manner g.manner (same_word comma (codes ",\"manner\"") (manner_word f.manner) (manner_word g.manner) 44 _ _ refl (manner_lacks f.manner) (manner_lacks g.manner) refl ruled) in
    let ordered : from_orders f ≡ from_orders g = our_orders.1 ∙ (same_rest comma (codes ",\"manner\"") (manner_word f.manner) (manner_word g.manner) 44 _ _ refl (manner_lacks f.manner) (manner_lacks g.manner) refl ruled ∙ sym their_orders.1) in
    let orders = same_orders (f.orders == 1) (g.orders == 1) f.orders g.orders (drop 3 (from_patience f)) (drop 3 (from_patience g)) refl refl hf.orders hg.orders ordered in
    let e7 : from_patience f ≡ from_patience g = orders.1 in
    let patience = same_patience f.patience g.patience hf.patience hg.patience (same_word comma (codes ",\"patience\"") (patience_word f.patience) (patience_word g.patience) 44 _ _ refl (patience_lacks f.patience hf.patience) (patience_lacks g.patience hg.patience) refl e7) in
    let e8 : from_high f ≡ from_high g = same_rest comma (codes ",\"patience\"") (patience_word f.patience) (patience_word g.patience) 44 _ _ refl (patience_lacks f.patience hf.patience) (patience_lacks g.patience hg.patience) refl e7 in
    let high = same_number f.traitors.high g.traitors.high (small f.traitors.high hf.traitors.1) (small g.traitors.high hg.traitors.1) (same_word comma (codes ",\"traitors_high\"") (decimal f.traitors.high) (decimal g.traitors.high) 44 _ _ refl (small_lacks f.traitors.high hf.traitors.1) (small_lacks g.traitors.high hg.traitors.1) refl e8) in
    let e9 : from_low f ≡ from_low g = same_rest comma (codes ",\"traitors_high\"") (decimal f.traitors.high) (decimal g.traitors.high) 44 _ _ refl (small_lacks f.traitors.high hf.traitors.1) (small_lacks g.traitors.high hg.traitors.1) refl e8 in
    let low = same_number f.traitors.low g.traitors.low (small f.traitors.low hf.traitors.0) (small g.traitors.low hg.traitors.0) (same_word (Byte 125) (codes ",\"traitors_low\"") (decimal f.traitors.low) (decimal g.traitors.low) 125 _ _ refl (decimal_lacks_brace f.traitors.low (small f.traitors.low hf.traitors.0)) (decimal_lacks_brace g.traitors.low (small g.traitors.low hg.traitors.0)) refl e9) in
    ap plot_text (same_plot f g seed (span_of f.generals g.generals generals_low generals_high) (span_of f.bound g.bound bound_low bound_high) (span_of f.traitors g.traitors low high) commanders.0 orders.0 grid manner patience (same_deeds f.adversary g.adversary adversary))

-- ---- a head ends with a line feed

abbrev Ends : List ℕ → Type 0
Ends xs = (front : List ℕ) × (xs ≡ front ++ 10 ∷ [])

ends_behind : (xs ys : List ℕ) → Ends ys → Ends (xs ++ ys)
ends_behind xs ys h = (xs ++ h.0, ap (λ (l : List ℕ). xs ++ l) h.1 ∙ sym (append_assoc xs h.0 (10 ∷ [])))

member_ends : (front w behind : List ℕ) → Ends behind → Ends (member front w behind)
member_ends front w behind h = ends_behind front (58 ∷ (w ++ behind)) (ends_behind (58 ∷ []) (w ++ behind) (ends_behind w behind h))

pub is_a_head : (f : Family) → IsHead (head_text f)
is_a_head f =
    let low : Ends (from_low f) = member_ends (codes ",\"traitors_low\"") (decimal f.traitors.low) (codes "}\n") (125 ∷ [], refl) in
    let high : Ends (from_high f) = member_ends (codes ",\"traitors_high\"") (decimal f.traitors.high) (from_low f) low in
    let patience : Ends (from_patience f) = member_ends (codes ",\"patience\"") (patience_word f.patience) (from_high f) high in
    let orders : Ends (from_orders f) = ends_behind (orders_text f.orders) (from_patience f) patience in
    let manner : Ends (from_manner f) = member_ends (codes ",\"manner\"") (manner_word f.manner) (from_orders f) orders in
    let line : Ends (from_line f) = member_ends (codes ",\"line\"") (line_word f.grid) (from_manner f) manner in
    let fewest : Ends (from_fewest f) = member_ends (codes ",\"generals_low\"") (decimal f.generals.low) (from_line f) line in
    let most : Ends (from_most f) = member_ends (codes ",\"generals_high\"") (decimal f.generals.high) (from_fewest f) fewest in
    let commander : Ends (from_commander f) = ends_behind (commander_text f.commander) (from_most f) most in
    let least : Ends (from_least f) = member_ends (codes ",\"bound_low\"") (decimal f.bound.low) (from_commander f) commander in
    let bound : Ends (from_bound f) = member_ends (codes ",\"bound_high\"") (decimal f.bound.high) (from_least f) least in
    let all : Ends (head_text f) = member_ends (codes "{\"adversary\"") (adversary_word f.adversary) (from_bound f) bound in
    record { begins = refl; front = all.0; whole = all.1 }

pub heads_law : HeadsTellFamilies
heads_law = record { campaigns = same_families; heads = is_a_head }

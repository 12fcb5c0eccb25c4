-- The message table of a break.
use Rattle.std.proofs.Common.{ℕ, ◌<◌, ◌≤◌, ◌≡◌, true, false, not, List, [], ◌∷◌, ◌++◌, map, refl, sym, ap, ◌∙◌, arith, inl, inr, Option, Some, length-append}
use Rattle.std.specs.Prelude.{◌==◌, find, count_by}
use Rattle.std.proofs.lemmas.Bool.{cases_Bool, cond-true, cond-false, and_parts, and_from, not-true, or_cases, or_from, or_parts, eqb-true, eq-eqb, ne_eqb, true≢false}
use Rattle.combine.specs.declared.campaign_rule.Rule.{Rule}
use Rattle.combine.specs.declared.campaign_rule.Rule.TheVariants.{Majority}
use Rattle.combine.specs.Rule.{combined_by}
use Rattle.label.specs.Labels.{on, is_distinct, generals}
use Rattle.label.specs.Lieutenants.{lieutenants}
use Rattle.label.specs.Oral.{Messages, AllBelow, IsLabel, IsFaithful, order_of}
use Rattle.label.proofs.Counting.{on-push}
use Rattle.label.proofs.Counts.{among}
use Rattle.tree.specs.LieutenantTree.{LieutenantTree, IsCampaign}
use Rattle.book.specs.Grammar.{is_within, table_told}
use Rattle.book.specs.Hearing.{heard, value_of}
use Rattle.book.specs.Table.{AreNumbersWithin, MessageTable, told}
use Rattle.book.specs.Trees.{tree_of}
use Rattle.book.specs.Written.{table_text}
use Rattle.book.specs.WrittenLaws.{AreOrders, IsTableOf}
use Rattle.book.proofs.Flattened.{tables_same}
use Rattle.book.proofs.Hearing.{value_told}
use Rattle.book.proofs.Places.{is_place_of}
use Rattle.book.proofs.Reread.{apart_first, limits, place_from, proved_tables_are_read}
use Rattle.book.proofs.TreeLemmas.{place_of_tree}
use Rattle.lies.specs.Asked.{IsAsked}
use Rattle.lies.specs.Break.{Breaks, IsShortest, attacks_in}
use Rattle.lies.specs.BreakTable.{IsBreakTable}
use Rattle.lies.proofs.Costs.{same_from}

-- Proves that the search finds the tree of a lieutenant.
find_tree : (n m c p : ℕ) (M : Messages) (ps : List ℕ) → on ps p ≡ true → find (λ (t : LieutenantTree). t.general == p) (map (tree_of n m c M) ps) ≡ Some (tree_of n m c M p)
find_tree n m c p M [] i = absurd (true≢false (sym i))
find_tree n m c p M (q ∷ ps) i = elim (cases_Bool (q == p)) [
  | inl here ↦
      cond-true (q == p) (Some (tree_of n m c M q)) (find (λ (t : LieutenantTree). t.general == p) (map (tree_of n m c M) ps)) here
      ∙ ap (λ (x : ℕ). Some (tree_of n m c M x)) (eqb-true q p here)
  | inr apart ↦
      cond-false (q == p) (Some (tree_of n m c M q)) (find (λ (t : LieutenantTree). t.general == p) (map (tree_of n m c M) ps)) apart
      ∙ find_tree n m c p M ps (elim (or_cases (q == p) (on ps p) i) [ inl it ↦ absurd (true≢false (sym it ∙ apart)) | inr there ↦ there ])
]

-- Proves that the trees have the messages with which they were filled.
heard_at_place : (n m c : ℕ) (M : Messages) → AreNumbersWithin n m c → (w : List ℕ) (p : ℕ) → is_place_of n m c w p ≡ true → heard (map (tree_of n m c M) (lieutenants n c)) w p ≡ M w p
unfolding heard
heard_at_place n m c M inside w p place =
    let table : MessageTable = record { generals = n; bound = m; commander = c; rule = Majority; messages = [] } in
    let own = place_of_tree table M w p place in
    let rounds = inside.rounds in
    let campaign : IsCampaign (tree_of n m c M p) = record { few = inside.few; commander = inside.present; general = own.1; lieutenant = own.2; small = omega arith } in
    ap (λ (o : Option LieutenantTree). value_of o w) (find_tree n m c p M (lieutenants n c) (among n (c ∷ []) p own.1 (apart_first c p own.2)))
    ∙ value_told (tree_of n m c M p) M w campaign refl own.0

-- Proves what holds of a label without its last general.
below_front : (n g : ℕ) (u : List ℕ) → AllBelow n (u ++ g ∷ []) → AllBelow n u × (g < n)
below_front n g [] b = (tt, b.0)
below_front n g (x ∷ xs) b = let rest = below_front n g xs b.1 in ((b.0, rest.0), rest.1)

distinct_front : (g : ℕ) (u : List ℕ) → is_distinct (u ++ g ∷ []) ≡ true → (is_distinct u ≡ true) × (on u g ≡ false)
distinct_front g [] d = (refl, refl)
distinct_front g (x ∷ xs) d =
    let both = and_parts (not (on (xs ++ g ∷ []) x)) (is_distinct (xs ++ g ∷ [])) d in
    let apart = or_parts (on xs x) (g == x) (sym (on-push xs g x) ∙ not-true (on (xs ++ g ∷ []) x) both.0) in
    let rest = distinct_front g xs both.1 in
    let other : (x == g) ≡ false = ne_eqb x g (λ e. true≢false (sym (eq-eqb g x (sym e)) ∙ apart.1)) in
    (and_from (not (on xs x)) (is_distinct xs) (rw apart.0 refl) rest.0, or_from (x == g) (on xs g) other rest.1)

-- Proves that a general stays faithful in messages that agree at all places.
faithful_same : (n m c order g : ℕ) (M N : Messages) → ((w : List ℕ) (p : ℕ) → is_place_of n m c w p ≡ true → N w p ≡ M w p) → IsFaithful n c m order M g → IsFaithful n c m order N g
faithful_same n m c order g M N same is [] p label short within off =
    same (g ∷ []) p (place_from n m c (g ∷ []) p label within off (omega arith)) ∙ is [] p label short within off
faithful_same n m c order g M N same is (x ∷ xs) p label short within off =
    let ends = below_front n g (x ∷ xs) label.below in
    let once = distinct_front g (x ∷ xs) label.distinct in
    let front : IsLabel n c (x ∷ xs) = record { first = label.first; below = ends.0; distinct = once.0 } in
    same (x ∷ xs ++ g ∷ []) p (place_from n m c (x ∷ xs ++ g ∷ []) p label within off (omega (arith, length-append (x ∷ xs) (g ∷ []))))
    ∙ (is (x ∷ xs) p label short within off
    ∙ ap (λ o. Some (order_of o)) (sym (same (x ∷ xs) g (place_from n m c (x ∷ xs) g front ends.1 once.1 (omega arith)))))

-- Proves that the numbers are within their limits under each commander.
pub within_all : (n m d c : ℕ) → is_within n m d ≡ true → c < n → AreNumbersWithin n m c
within_all n m d c within inside = (let l = limits n m d within in record { few = l.few; rounds = l.rounds; relays = l.relays; present = inside })

-- Proves that the table that is written from the trees of a shortest break is its message table.
pub table_is : (rule : Rule) (n m : ℕ) (given : Option ℕ) (c most order : ℕ) (traitors : List ℕ) (M : Messages) (trees : List LieutenantTree) (text : List ℕ) → is_within n m c ≡ true → AreOrders M → Breaks (combined_by rule) n m c order (on traitors) M
    → count_by (on traitors) (generals n) ≤ most → IsAsked n given c → ((d : ℕ) → IsAsked n given d → IsShortest (combined_by rule) n m d c (on traitors) M) → trees ≡ map (tree_of n m c M) (lieutenants n c) → text ≡ table_text (heard trees) n m c rule → IsBreakTable rule n m given most c traitors text
table_is rule n m given c most order traitors M trees text within orders breaks few asked shortest are written =
    let inside : AreNumbersWithin n m c = limits n m c within in
    let is = proved_tables_are_read M orders n m c rule within in
    let t : MessageTable = is.0 in
    let contents : IsTableOf M n m c rule t = is.2 in
    let same : text ≡ table_text M n m c rule =
    written ∙ (ap (λ (ts : List LieutenantTree). table_text (heard ts) n m c rule) are ∙ tables_same (heard (map (tree_of n m c M) (lieutenants n c))) M n m c rule inside.present (heard_at_place n m c M inside))
    in
    let places : (w : List ℕ) (p : ℕ) → is_place_of n m c w p ≡ true → told t.messages w p ≡ M w p =
    λ w p place. contents.told w p ((λ i. is_place_of (contents.generals i) (contents.bound i) (contents.commander i) w p) ∙ place)
    in
    let cost : attacks_in n m c (on traitors) (told t.messages) ≡ attacks_in n m c (on traitors) M =
    same_from n c m (on traitors) (on traitors) (told t.messages) M
    (record { traitors = λ j l. refl; messages = λ w p label short l off. places w p (place_from n m c w p label l off short) })
    m (c ∷ []) c (record { first = refl; below = (inside.present, tt); distinct = refl }) (omega arith) inside.present
    in
    record {
      order = order;
      table = t;
      read = ap table_told same ∙ is.1;
      numbers = record { generals = contents.generals; bound = contents.bound; commander = contents.commander; rule = contents.rule };
      asked = asked;
      few = few;
      faithful = λ g l loyal. faithful_same n m c order g M (told t.messages) places (breaks.faithful g l loyal);
      broken = λ agree. breaks.broken (record {
        alike = λ p q lp lq. sym (contents.decides p lp.general lp.lieutenant) ∙ (agree.alike p q lp lq ∙ contents.decides q lq.general lq.lieutenant);
        obeyed = λ loyal p lp. sym (contents.decides p lp.general lp.lieutenant) ∙ agree.obeyed loyal p lp;
      });
      shortest = λ d it v rival N other. elim (shortest d it v rival N other) [
        | inl fewer ↦ inl fewer
        | inr equal ↦ inr (equal.0, (let l = equal.1 in omega arith))
      ];
    }

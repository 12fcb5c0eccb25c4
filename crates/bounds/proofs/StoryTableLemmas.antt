-- The message table of a story.
use Rattle.std.proofs.Common.{ℕ, ◌^◌, ◌<◌, ◌≡◌, Bool, true, false, not, cond, List, [], ◌∷◌, ◌++◌, map, refl, sym, ap, ◌∙◌, arith, inl, inr, Option, None, Some, length-append}
use Rattle.std.specs.Prelude.{◌==◌, find}
use Rattle.std.proofs.lemmas.Bool.{cases_Bool, cond-true, cond-false, and_parts, and_from, not-true, or_cases, or_from, or_parts, eqb-true, eq-eqb, ne_eqb, true≢false}
use Rattle.combine.specs.declared.campaign_rule.Rule.{Rule}
use Rattle.combine.specs.declared.campaign_rule.Rule.TheVariants.{Majority}
use Rattle.label.specs.Labels.{on, is_distinct}
use Rattle.label.specs.Lieutenants.{lieutenants}
use Rattle.label.specs.Oral.{Messages, AllBelow, IsLabel, IsFaithful, order_of}
use Rattle.label.proofs.Counting.{on-push}
use Rattle.label.proofs.Counts.{among}
use Rattle.tree.specs.LieutenantTree.{LieutenantTree, IsCampaign}
use Rattle.book.specs.Grammar.{table_told}
use Rattle.book.specs.Hearing.{heard, value_of}
use Rattle.book.specs.Table.{AreNumbersWithin, MessageTable, told}
use Rattle.book.specs.Trees.{tree_of}
use Rattle.book.specs.Written.{table_text}
use Rattle.book.specs.WrittenLaws.{AreOrders}
use Rattle.book.proofs.Flattened.{tables_same}
use Rattle.book.proofs.Hearing.{value_told}
use Rattle.book.proofs.Places.{is_place_of}
use Rattle.book.proofs.Reread.{apart_first, limits, place_from, proved_tables_are_read}
use Rattle.book.proofs.TreeLemmas.{place_of_tree}
use Rattle.bounds.specs.Refutation.{IsStoryTable, refusal_of}
use Rattle.bounds.specs.Stories.{held_order, is_traitor_in, last_general, story_messages, story_order}
use Rattle.bounds.specs.declared.story.Story.{Story}
use Rattle.bounds.proofs.RefutationLemmas.{few_from, within_from}
use Rattle.bounds.proofs.TightnessLaws.{proved_stories_are_admissible}

-- Proves which tree is found for a lieutenant.
find_tree : (n m c p : ℕ) (M : Messages) (ps : List ℕ) → on ps p ≡ true → find (λ (t : LieutenantTree). t.general == p) (map (tree_of n m c M) ps) ≡ Some (tree_of n m c M p)
find_tree n m c p M [] i = absurd (true≢false (sym i))
find_tree n m c p M (q ∷ ps) i = elim (cases_Bool (q == p)) [
  | inl here ↦
      cond-true (q == p) (Some (tree_of n m c M q)) (find (λ (t : LieutenantTree). t.general == p) (map (tree_of n m c M) ps)) here
      ∙ ap (λ (x : ℕ). Some (tree_of n m c M x)) (eqb-true q p here)
  | inr apart ↦
      cond-false (q == p) (Some (tree_of n m c M q)) (find (λ (t : LieutenantTree). t.general == p) (map (tree_of n m c M) ps)) apart
      ∙ find_tree n m c p M ps (elim (or_cases (q == p) (on ps p) i) [ inl it ↦ absurd (true≢false (sym it ∙ apart)) | inr there ↦ there ])
]

-- Proves that the trees contain the messages that they were filled with.
heard_at_place : (n m c : ℕ) (M : Messages) → AreNumbersWithin n m c → (w : List ℕ) (p : ℕ) → is_place_of n m c w p ≡ true → heard (map (tree_of n m c M) (lieutenants n c)) w p ≡ M w p
unfolding heard
heard_at_place n m c M inside w p place =
    let table : MessageTable = record { generals = n; bound = m; commander = c; rule = Majority; messages = [] } in
    let own = place_of_tree table M w p place in
    let rounds = inside.rounds in
    let campaign : IsCampaign (tree_of n m c M p) = record { few = inside.few; commander = inside.present; general = own.1; lieutenant = own.2; small = omega arith } in
    ap (λ (o : Option LieutenantTree). value_of o w) (find_tree n m c p M (lieutenants n c) (among n (c ∷ []) p own.1 (apart_first c p own.2)))
    ∙ value_told (tree_of n m c M p) M w campaign refl own.0

-- Proves that the orders of a story are small enough for the table.
held_small : (s : Story) (c g : ℕ) (w : List ℕ) → held_order s c g w < 2 ^ 32
unfolding held_order
held_small s c g w = omega arith

either_small : (b : Bool) (x y order : ℕ) → x < 2 ^ 32 → y < 2 ^ 32 → Some (cond b x y) ≡ Some order → order < 2 ^ 32
either_small true x y order lx ly e = let same : x ≡ order = cc in omega arith
either_small false x y order lx ly e = let same : y ≡ order = cc in omega arith

story_orders : (s : Story) (c : ℕ) → AreOrders (story_messages s c)
unfolding story_messages
story_orders s c w p order e =
    either_small (is_traitor_in s c (last_general w)) (held_order s c p (w ++ p ∷ [])) (held_order s c (last_general w) w) order
    (held_small s c p (w ++ p ∷ [])) (held_small s c (last_general w) w) e

-- Proves what is known of a label without its last general.
below_front : (n g : ℕ) (u : List ℕ) → AllBelow n (u ++ g ∷ []) → AllBelow n u × (g < n)
below_front n g [] b = (tt, b.0)
below_front n g (x ∷ xs) b = let rest = below_front n g xs b.1 in ((b.0, rest.0), rest.1)

distinct_front : (g : ℕ) (u : List ℕ) → is_distinct (u ++ g ∷ []) ≡ true → (is_distinct u ≡ true) × (on u g ≡ false)
distinct_front g [] d = (refl, refl)
distinct_front g (x ∷ xs) d =
    let both = and_parts (not (on (xs ++ g ∷ []) x)) (is_distinct (xs ++ g ∷ [])) d in
    let apart = or_parts (on xs x) (g == x) (sym (on-push xs g x) ∙ not-true (on (xs ++ g ∷ []) x) both.0) in
    let rest = distinct_front g xs both.1 in
    let other : (x == g) ≡ false = ne_eqb x g (λ e. true≢false (sym (eq-eqb g x (sym e)) ∙ apart.1)) in
    (and_from (not (on xs x)) (is_distinct xs) (rw apart.0 refl) rest.0, or_from (x == g) (on xs g) other rest.1)

-- Proves that generals who are faithful in one message function are faithful in one that has the same messages at all
-- places.
faithful_same : (n m c order g : ℕ) (M N : Messages) → ((w : List ℕ) (p : ℕ) → is_place_of n m c w p ≡ true → N w p ≡ M w p) → IsFaithful n c m order M g → IsFaithful n c m order N g
faithful_same n m c order g M N same is [] p label short within off =
    same (g ∷ []) p (place_from n m c (g ∷ []) p label within off (omega arith)) ∙ is [] p label short within off
faithful_same n m c order g M N same is (x ∷ xs) p label short within off =
    let ends = below_front n g (x ∷ xs) label.below in
    let once = distinct_front g (x ∷ xs) label.distinct in
    let front : IsLabel n c (x ∷ xs) = record { first = label.first; below = ends.0; distinct = once.0 } in
    same (x ∷ xs ++ g ∷ []) p (place_from n m c (x ∷ xs ++ g ∷ []) p label within off (omega (arith, length-append (x ∷ xs) (g ∷ []))))
    ∙ (is (x ∷ xs) p label short within off
    ∙ ap (λ o. Some (order_of o)) (sym (same (x ∷ xs) g (place_from n m c (x ∷ xs) g front ends.1 once.1 (omega arith)))))

-- Proves that the table written from a story's trees is the story's message table.
pub table_is : (rule : Rule) (n c m : ℕ) (s : Story) (trees : List LieutenantTree) (text : List ℕ) → refusal_of n m c ≡ None → trees ≡ map (tree_of n m c (story_messages s c)) (lieutenants n c) → text ≡ table_text (heard trees) n m c rule → IsStoryTable rule n c m s text
table_is rule n c m s trees text given are written =
    let inside = within_from n m c given in
    let few = few_from n m c given in
    let M : Messages = story_messages s c in
    let admissible = proved_stories_are_admissible.admissible s n c m few in
    let is = proved_tables_are_read M (story_orders s c) n m c rule inside in
    let t : MessageTable = is.0 in
    let same : text ≡ table_text M n m c rule =
    written ∙ (ap (λ (ts : List LieutenantTree). table_text (heard ts) n m c rule) are ∙ tables_same (heard (map (tree_of n m c M) (lieutenants n c))) M n m c rule few.commander (heard_at_place n m c M (limits n m c inside)))
    in
    let contents = is.2 in
    let places : (w : List ℕ) (p : ℕ) → is_place_of n m c w p ≡ true → told t.messages w p ≡ M w p =
    λ w p place. contents.told w p ((λ i. is_place_of (contents.generals i) (contents.bound i) (contents.commander i) w p) ∙ place)
    in
    record {
      table = t;
      read = ap table_told same ∙ is.1;
      same = contents;
      few = admissible.few;
      faithful = λ g l loyal. faithful_same n m c (story_order s) g M (told t.messages) places (admissible.faithful m g l loyal);
    }

-- What the folds of a page contain.
use Rattle.std.proofs.Common.{ℕ, zero, suc, ◌<◌, ◌≤◌, length, ◌≡◌, ◌≢◌, Bool, true, false, List, [], ◌∷◌, ◌++◌, refl, sym, ap, subst, ◌∙◌, arith, inl, inr, Option, codes}
use Rattle.std.specs.Prelude.{◌==◌, if◌then◌else◌}
use Rattle.std.specs.List.{AllByRecursion, flat_map, range_with_len}
use Rattle.std.proofs.lemmas.Bool.{cond-false, eqb-true, ne_eqb, or_cases}
use Rattle.std.proofs.lemmas.List.Elements.{All-from_recursion}
use Rattle.book.specs.Decisions.{decision_of}
use Rattle.book.specs.Table.{MessageTable}
use Rattle.show_tree.specs.Facts.{mark_at, node_at}
use Rattle.show_tree.specs.Shown.{deeper, is_open, nodes_below, nodes_by, nodes_of, root_node}
use Rattle.show_tree.specs.Words.{said}
use Rattle.show_tree.specs.declared.node.Node.{Node}
use Rattle.show_tree.specs.declared.node.View.{View}
use Rattle.label.specs.Labels.{on, others}
use Rattle.label.proofs.Counting.{range-on}
use Rattle.label.proofs.Places.{all-append}
use Rattle.html.specs.Page.{fold, fold_end, fold_start, item, item_end, item_start, list, list_end, list_start, page_end, page_start, paragraph, shown, text_item}
use Rattle.html.specs.Laws.{StandsIn}
use Rattle.html.specs.Sections.{Section, sections_in}
use Rattle.html.proofs.SectionLaws.{ahead, behind, proved_sections_are_fitted}
use Rattle.show_table.specs.Retold.{traitors_of}
use Rattle.trace.specs.Text.{chronicle_text}
use Rattle.world.specs.Chronicle.{Chronicle}
use Rattle.world.specs.declared.schedule.Repeat.{Repeat}
use Rattle.show_page.specs.Account.{accesses_section, chronicle_section, diagram_section, each_lieutenant, lieutenant_part, lieutenant_told, lieutenant_words, lieutenants_section, page_text, parts, programs_section, scenario_section, schedule_section, sections, title, verdict_part, view_of, why_part}
use Rattle.show_page.specs.Room.{room_for_lieutenants, room_for_sections}
use Rattle.show_page.specs.Laws.{FoldsHideNothing, IsShownIn as Shows}
use Rattle.show_page.specs.Trees.{item_by, items_below, tree_told}

between : (part whole before after : List ℕ) → StandsIn part whole → StandsIn part (before ++ whole ++ after)
between part whole before after is = ahead part (before ++ whole) after (behind part whole before is)

-- What a part of a text contains, the text contains.
within : (part inner whole : List ℕ) → StandsIn part inner → StandsIn inner whole → StandsIn part whole
within part inner whole is there = subst (StandsIn part) (sym there.2) (between part inner there.0 there.1 is)

weaker : (P Q : Node → Type 0) (xs : List Node) → ((x : Node) → P x → Q x) → AllByRecursion P xs → AllByRecursion Q xs
weaker P Q [] h a = tt
weaker P Q (x ∷ xs) h a = (h x a.0, weaker P Q xs h a.1)

-- A label with an open fold below it, and one without.
label_shows : (b : Bool) (node : Node) (nodes : List Node) (below : List ℕ) → AllByRecursion (Shows below) nodes
    → AllByRecursion (Shows (if b then item (fold (said node) (list below)) else text_item (said node))) (node ∷ (if b then nodes else []))
label_shows true node nodes below a =
    let words : List ℕ = shown (said node) in
    let inner : List ℕ = list below in
    let whole : List ℕ = fold (said node) inner in
    let own : StandsIn words (fold_start (said node)) = (codes "<details>\n<summary>", codes "</summary>\n", refl) in
    let first : StandsIn words whole = ahead words (fold_start (said node) ++ inner) fold_end (ahead words (fold_start (said node)) inner own) in (
      between words whole item_start item_end first,
      weaker (Shows below) (Shows (item whole)) nodes
          (λ x is.
          let said_so : List ℕ = shown (said x) in
          between said_so whole item_start item_end (between said_so inner (fold_start (said node)) fold_end (between said_so below list_start list_end is))) a,
    )
label_shows false node nodes below a = ((codes "<li>", codes "</li>\n", refl), tt)

-- Labels, one after the other.
all_show : (F : ℕ → List Node) (G : ℕ → List ℕ) (xs : List ℕ) → ((j : ℕ) → AllByRecursion (Shows (G j)) (F j)) → AllByRecursion (Shows (flat_map G xs)) (flat_map F xs)
all_show F G [] h = tt
all_show F G (x ∷ xs) h =
    all-append (Shows (G x ++ flat_map G xs)) (F x) (flat_map F xs)
    (weaker (Shows (G x)) (Shows (G x ++ flat_map G xs)) (F x) (λ node is. ahead (shown (said node)) (G x) (flat_map G xs) is) (h x))
    (weaker (Shows (flat_map G xs)) (Shows (G x ++ flat_map G xs)) (flat_map F xs) (λ node is. behind (shown (said node)) (flat_map G xs) (G x) is) (all_show F G xs h))

items_show : (t : MessageTable) (traitors : List ℕ) (v : View) (k : ℕ) (w : List ℕ) (p : ℕ) → AllByRecursion (Shows (items_below t traitors v k w p)) (nodes_below t traitors v k w p)
unfolding items_below nodes_below
items_show t traitors v zero w p = tt
items_show t traitors v (suc k) w p =
    all_show (λ j. nodes_by t traitors v k w j p) (item_by t traitors v k w p) (others t.generals (p ∷ w))
    (λ j.
    let node : Node = node_at t traitors v (mark_at t traitors w j p) k (w ++ j ∷ []) p in
    label_shows (is_open node.extent) node (nodes_below t traitors (deeper v) k (w ++ j ∷ []) p) (items_below t traitors (deeper v) k (w ++ j ∷ []) p)
    (items_show t traitors (deeper v) k (w ++ j ∷ []) p))

root_shows : (b : Bool) (node : Node) (nodes : List Node) (below : List ℕ) → AllByRecursion (Shows below) nodes
    → AllByRecursion (Shows (paragraph (said node) ++ (if b then list below else []))) (node ∷ (if b then nodes else []))
root_shows true node nodes below a =
    let words : List ℕ = shown (said node) in (
      ahead words (paragraph (said node)) (list below) (codes "<p>", codes "</p>\n", refl),
      weaker (Shows below) (Shows (paragraph (said node) ++ list below)) nodes
          (λ x is. behind (shown (said x)) (list below) (paragraph (said node)) (between (shown (said x)) below list_start list_end is)) a,
    )
root_shows false node nodes below a = (ahead (shown (said node)) (paragraph (said node)) [] (codes "<p>", codes "</p>\n", refl), tt)

tree_shows : (t : MessageTable) (traitors : List ℕ) (view : View) (p : ℕ) → AllByRecursion (Shows (tree_told t traitors view p)) (nodes_of t traitors view p)
unfolding tree_told nodes_of
tree_shows t traitors view p =
    let node : Node = root_node t traitors view p in
    root_shows (is_open node.extent) node (nodes_below t traitors (deeper view) t.bound (t.commander ∷ []) p) (items_below t traitors (deeper view) t.bound (t.commander ∷ []) p)
    (items_show t traitors (deeper view) t.bound (t.commander ∷ []) p)

-- What the text of one general contains, the text of all contains.
among_all : (part : List ℕ) (G : ℕ → List ℕ) (xs : List ℕ) (j : ℕ) → on xs j ≡ true → StandsIn part (G j) → StandsIn part (flat_map G xs)
among_all part G [] j there is = cc
among_all part G (x ∷ xs) j there is = elim (or_cases (x == j) (on xs j) there) [
  | inl here ↦ ahead part (G x) (flat_map G xs) (subst (λ (i : ℕ). StandsIn part (G i)) (sym (eqb-true x j here)) is)
  | inr later ↦ behind part (flat_map G xs) (G x) (among_all part G xs j later is)
]

-- The page contains the texts of the lieutenants, if they have room in their section.
lieutenants_stand : (words : List ℕ) (schedule : Option (List (List Repeat))) (t : MessageTable) (c : Chronicle)
    → length (each_lieutenant t (traitors_of c.scenario) (view_of c.scenario)) ≤ room_for_lieutenants
    → StandsIn (each_lieutenant t (traitors_of c.scenario) (view_of c.scenario)) (page_text words schedule t c)
unfolding parts
lieutenants_stand words schedule t c short =
    let told : List ℕ = each_lieutenant t (traitors_of c.scenario) (view_of c.scenario) in
    let all : List Section = sections words schedule t c in
    between told (verdict_part c.verdict ++ sections_in room_for_sections all) (page_start (title c.scenario)) page_end
    (behind told (sections_in room_for_sections all) (verdict_part c.verdict)
    (proved_sections_are_fitted.own room_for_sections (diagram_section t c ∷ []) (lieutenants_section t c.scenario)
    (scenario_section words ∷ programs_section c.scenario ∷ schedule_section schedule ∷ accesses_section c.accesses ∷ chronicle_section (chronicle_text c) ∷ []) short))

lieutenant_stands : (part : List ℕ) (t : MessageTable) (traitors : List ℕ) (view : View) (p : ℕ) → p < t.generals → p ≢ t.commander
    → StandsIn part (tree_told t traitors view p) → StandsIn part (each_lieutenant t traitors view)
lieutenant_stands part t traitors view p general lieutenant is =
    let told : List ℕ = tree_told t traitors view p ++ why_part t traitors p in
    let words : List ℕ = lieutenant_words p (on traitors p) (decision_of t p) in
    let his : StandsIn part (lieutenant_told t traitors view p) = between part told (fold_start words) fold_end (ahead part (tree_told t traitors view p) (why_part t traitors p) is) in
    let own : lieutenant_told t traitors view p ≡ lieutenant_part t traitors view p = sym (cond-false (p == t.commander) [] (lieutenant_told t traitors view p) (ne_eqb p t.commander lieutenant)) in
    among_all part (lieutenant_part t traitors view) (range_with_len 0 t.generals) p (range-on 0 t.generals p (omega arith) (omega arith)) (subst (StandsIn part) own his)

pub proved_folds_hide_nothing : FoldsHideNothing
proved_folds_hide_nothing words schedule t c p general lieutenant short =
    let traitors : List ℕ = traitors_of c.scenario in
    let view : View = view_of c.scenario in
    All-from_recursion (Shows (page_text words schedule t c)) (nodes_of t traitors view p)
    (weaker (Shows (tree_told t traitors view p)) (Shows (page_text words schedule t c)) (nodes_of t traitors view p)
    (λ node is.
    let part : List ℕ = shown (said node) in
    within part (each_lieutenant t traitors view) (page_text words schedule t c) (lieutenant_stands part t traitors view p general lieutenant is)
    (lieutenants_stand words schedule t c short))
    (tree_shows t traitors view p))

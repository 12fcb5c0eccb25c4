-- The trees of a table.
use Rattle.std.proofs.Common.{◌≡◌, ◌≢◌, ◌<◌, ◌+◌, ℕ, zero, suc, true, false, List, [], ◌∷◌, ◌++◌, map, length, refl, sym, ap, ◌∙◌, arith, Option, Some}
use Rattle.std.proofs.Math.ListN.{set}
use Rattle.std.specs.Prelude.{slice_get, option_map, ◌==◌}
use Rattle.std.specs.List.{list_any}
use Rattle.std.proofs.lemmas.Bool.{or_from, or_parts, ne_eqb, eqb-false}
use Rattle.std.proofs.lemmas.Option.{slice_get-map}
use Rattle.std.proofs.lemmas.List.{map-append}
use Rattle.label.specs.Labels.{on, others, labels}
use Rattle.label.specs.Oral.{Messages, BeginsWith}
use Rattle.label.proofs.Bounds.{others_here}
use Rattle.label.proofs.Ranks.{others-place}
use Rattle.tree.specs.LieutenantTree.{LieutenantTree, IsFilled, IsPlace, SameCampaign, levels_from, silence, told_also}
use Rattle.book.specs.declared.message.Message.{Message}
use Rattle.book.specs.Table.{MessageTable, is_about, told}
use Rattle.book.specs.Grammar.{is_place}
use Rattle.book.specs.Decisions.{lieutenants}
use Rattle.book.specs.Laws.{IsMessage}
use Rattle.book.specs.Trees.{tree_of}
use Rattle.book.proofs.Steps.{others-more_yes}
use Rattle.book.proofs.ToldLemmas.{told_also_is, told_others}
use Rattle.book.proofs.WholeLemmas.{place_message}

-- A tree, by its parts.
pub tree_is : (t : LieutenantTree) (n m c p : ℕ) (M : Messages) → t.generals ≡ n → t.bound ≡ m → t.commander ≡ c → t.general ≡ p → IsFilled t M → t ≡ tree_of n m c M p
tree_is t n m c p M en em ec ep full =
    let T : List (List (Option ℕ)) → LieutenantTree = λ ls. record { generals = t.generals; bound = t.bound; commander = t.commander; general = t.general; levels = ls } in
    rw (← en, ← em, ← ec, ← ep) (ap T full)

map_same : (M N : Messages) (p : ℕ) → ((w : List ℕ) → M w p ≡ N w p) → (ws : List (List ℕ)) → map (λ w. M w p) ws ≡ map (λ w. N w p) ws
map_same M N p same [] = refl
map_same M N p same (w ∷ ws) = rw (same w, map_same M N p same ws) refl

levels_same : (n c p : ℕ) (M N : Messages) (k l : ℕ) → ((w : List ℕ) → M w p ≡ N w p) → levels_from n c p M k l ≡ levels_from n c p N k l
unfolding levels_from
levels_same n c p M N k zero same = refl
levels_same n c p M N k (suc l) same = rw (map_same M N p same (labels n c p k), levels_same n c p M N (suc k) l same) refl

-- A tree depends only on the messages to its lieutenant.
pub tree_same : (n m c p : ℕ) (M N : Messages) → ((w : List ℕ) → M w p ≡ N w p) → tree_of n m c M p ≡ tree_of n m c N p
tree_same n m c p M N same =
    let T : List (List (Option ℕ)) → LieutenantTree = λ ls. record { generals = n; bound = m; commander = c; general = p; levels = ls } in
    ap T (levels_same n c p M N 1 (m + 1) same)

-- One item of a mapped list is set, and the others agree.
set_map : (F G : ℕ → LieutenantTree) (ps : List ℕ) (i p : ℕ) (y : LieutenantTree) → slice_get ps i ≡ Some p → y ≡ G p → ((j q : ℕ) → slice_get ps j ≡ Some q → j ≢ i → F q ≡ G q) → set (map F ps) i y ≡ map G ps
set_map F G [] i p y at e same = cc
set_map F G (x ∷ xs) zero p y at e same =
    let here : x ≡ p = cc in
    let first : y ≡ G x = e ∙ ap G (sym here) in
    rw (first, rest F G xs (λ j q h. same (suc j) q h (λ z. absurd (omega arith)))) refl
  where
    rest : (F G : ℕ → LieutenantTree) (ps : List ℕ) → ((j q : ℕ) → slice_get ps j ≡ Some q → F q ≡ G q) → map F ps ≡ map G ps
    rest F G [] same = refl
    rest F G (x ∷ xs) same = rw (same 0 x refl, rest F G xs (λ j q h. same (suc j) q h)) refl
set_map F G (x ∷ xs) (suc i) p y at e same =
    let first : F x ≡ G x = same 0 x refl (λ z. absurd (omega arith)) in
    rw (first, set_map F G xs i p y at e (λ j q h ne. same (suc j) q h (λ z. ne (omega arith)))) refl

-- A lieutenant is at his position.
pub lieutenant_at : (n c p place : ℕ) → p < n → p ≢ c → place ≡ length (others p (c ∷ [])) → slice_get (lieutenants n c) place ≡ Some p
lieutenant_at n c p place within ne e = others_here n (c ∷ []) place p within (or_from (c == p) false (ne_eqb c p (λ h. ne (sym h))) refl) e

-- His tree is there too.
pub tree_at : (n m c p place : ℕ) (M : Messages) (trees : List LieutenantTree) → p < n → p ≢ c → place ≡ length (others p (c ∷ [])) → trees ≡ map (tree_of n m c M) (lieutenants n c) → slice_get trees place ≡ Some (tree_of n m c M p)
tree_at n m c p place M trees within ne e is =
    ap (λ xs. slice_get xs place) is ∙ (slice_get-map (tree_of n m c M) (lieutenants n c) place ∙ ap (option_map (tree_of n m c M)) (lieutenant_at n c p place within ne e))

-- One more message is stored in the tree of its receiver.
pub written : (n m c place : ℕ) (messages : List Message) (said : Message) (trees : List LieutenantTree) (tree : LieutenantTree) → said.receiver < n → said.receiver ≢ c → place ≡ length (others said.receiver (c ∷ [])) → list_any (is_about said.label said.receiver) messages ≡ false
    → trees ≡ map (tree_of n m c (told messages)) (lieutenants n c) → tree ≡ tree_of n m c (told_also (told messages) said.label (Some said.order)) said.receiver
    → set trees place tree ≡ map (tree_of n m c (told (messages ++ said ∷ []))) (lieutenants n c)
written n m c place messages said trees tree within ne e fresh is new =
    rw is (set_map (tree_of n m c (told messages)) (tree_of n m c (told (messages ++ said ∷ []))) (lieutenants n c) place said.receiver tree (lieutenant_at n c said.receiver place within ne e)
    (new ∙ tree_same n m c said.receiver (told_also (told messages) said.label (Some said.order)) (told (messages ++ said ∷ [])) (told_also_is messages said fresh))
    (λ j q at other. tree_same n m c q (told messages) (told (messages ++ said ∷ [])) (told_others messages said q
    (λ same. other (others-place n (c ∷ []) j q at ∙ (ap (λ (x : ℕ). length (others x (c ∷ []))) (sym same) ∙ sym e))))))

-- A place of the table is one of the receiver's tree.
pub place_of_tree : (t : MessageTable) (M : Messages) (w : List ℕ) (p : ℕ) → is_place t w p ≡ true → IsPlace (tree_of t.generals t.bound t.commander M p) w × (p < t.generals) × (p ≢ t.commander)
place_of_tree t M w p e =
    let said : IsMessage t.generals t.bound t.commander (record { label = w; receiver = p; order = 0 }) = place_message t (record { label = w; receiver = p; order = 0 }) e (omega arith) in
    (record { label = said.label; without = said.off; short = said.rounds }, said.general, apart w p t.commander said.label.first said.off)
  where
    apart : (w : List ℕ) (p c : ℕ) → BeginsWith c w → on w p ≡ false → p ≢ c
    apart [] p c b o = absurd b
    apart (x ∷ xs) p c b o = λ same. eqb-false x p (or_parts (x == p) (on xs p) o).0 (b ∙ sym same)

-- One more lieutenant.
pub tree_more : (n m c p : ℕ) (M : Messages) (trees longer : List LieutenantTree) (tree : LieutenantTree) → p ≢ c → trees ≡ map (tree_of n m c M) (others p (c ∷ [])) → tree ≡ tree_of n m c M p → longer ≡ trees ++ tree ∷ [] → longer ≡ map (tree_of n m c M) (others (p + 1) (c ∷ []))
tree_more n m c p M trees longer tree ne is new e =
    rw (e, is, new, others-more_yes (c ∷ []) p (or_from (c == p) false (ne_eqb c p (λ h. ne (sym h))) refl)) (sym (map-append (tree_of n m c M) (others p (c ∷ [])) (p ∷ [])))

-- Without messages, nothing is received.
pub told_none : (n m c p : ℕ) → tree_of n m c silence p ≡ tree_of n m c (told []) p
unfolding told
told_none n m c p = refl

-- A tree in which a message was stored.
pub refilled : (old new : LieutenantTree) (n m c p : ℕ) (M : Messages) (w : List ℕ) (v : Option ℕ) → old ≡ tree_of n m c M p → SameCampaign old new → ((N : Messages) → IsFilled old N → IsFilled new (told_also N w v)) → new ≡ tree_of n m c (told_also M w v) p
refilled old new n m c p M w v e same filled =
    let full : IsFilled old M = rw e refl in
    tree_is new n m c p (told_also M w v) (same.generals ∙ ap (λ (t : LieutenantTree). t.generals) e) (same.bound ∙ ap (λ (t : LieutenantTree). t.bound) e) (same.commander ∙ ap (λ (t : LieutenantTree). t.commander) e) (same.general ∙ ap (λ (t : LieutenantTree). t.general) e) (filled M full)

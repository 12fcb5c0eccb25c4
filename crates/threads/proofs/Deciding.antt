-- The decisions made from the lieutenants' trees are the decisions of the campaign, as a list.
use Rattle.std.proofs.Common.{◌≡◌, ◌≢◌, ℕ, zero, suc, ◌+◌, ◌<◌, ◌≤◌, List, [], ◌∷◌, ◌++◌, length, map, take, true, false, refl, sym, ap, subst, ◌∙◌, ⊎_elim, Some, arith}
use Rattle.std.specs.Prelude.{◌==◌, slice_get}
use Rattle.std.specs.List.{AllZip}
use Rattle.std.proofs.lemmas.Bool.{eq-eqb, ne_eqb, lt-ltb, le-ltb}
use Rattle.std.proofs.lemmas.Bool.Decides.{eqb_tells}
use Rattle.std.proofs.lemmas.List.{map-append, take_all}
use Rattle.combine.specs.Rule.{combined_by}
use Rattle.label.specs.Labels.{others}
use Rattle.label.specs.Lieutenants.{lieutenants}
use Rattle.label.specs.Oral.{om}
use Rattle.label.proofs.Ranks.{others-more_no, others-more_yes}
use Rattle.tree.specs.LieutenantTree.{LieutenantTree}
use Rattle.resolve.specs.Decided.{Decides}
use Rattle.round.specs.Scenario.{Scenario}
use Rattle.round.specs.Letters.{Letter, messages}
use Rattle.round.specs.Told.{IsTreeOf, ToldSeen, WasTold, lieutenant_at}
use Rattle.world.specs.World.{each}
use Rattle.world.specs.Chronicle.{decision, decisions}
use Rattle.round.proofs.Lists.{some_at}
use Rattle.world.proofs.Arranged.{snoc}

one_by_one : (f : ℕ → ℕ) (n : ℕ) (g : ℕ → ℕ) → map f (each n (λ i. g i ∷ [])) ≡ each n (λ i. f (g i) ∷ [])
one_by_one f zero g = refl
one_by_one f (suc n) g = map-append f (each n (λ i. g i ∷ [])) (g n ∷ []) ∙ ap (λ xs. xs ++ f (g n) ∷ []) (one_by_one f n g)

-- The lieutenants under a commander, by their indices: those with numbers below his, and all.
front : (c n : ℕ) → n ≤ c → others n (c ∷ []) ≡ each n (λ i. lieutenant_at c i ∷ [])
front c zero le = refl
front c (suc n) le =
    let off : (c == n) ≡ false = ne_eqb c n (λ e. omega arith) in
    let here : n ≡ lieutenant_at c n = rw (lt-ltb n c (omega arith)) refl in
    others-more_yes (c ∷ []) n (rw off refl) ∙ (λ i. front c n (omega arith) i ++ here i ∷ [])

all_of : (c n : ℕ) → c ≤ n → others (suc n) (c ∷ []) ≡ each n (λ i. lieutenant_at c i ∷ [])
all_of c zero le =
    let on : (c == 0) ≡ true = eq-eqb c 0 (omega arith) in
    others-more_no (c ∷ []) 0 (rw on refl) ∙ front c 0 (omega arith)
all_of c (suc n) le = ⊎_elim
    (λ (q : (c == suc n ≡ true) × (c ≡ suc n)). others-more_no (c ∷ []) (suc n) (rw q.0 refl) ∙ front c (suc n) (let e = q.1 in omega arith))
    (λ (q : (c == suc n ≡ false) × (c ≢ suc n)).
    let past : c ≤ n = (let ne = q.1 in omega arith) in
    let here : suc n ≡ lieutenant_at c n = rw (le-ltb n c past) (omega arith) in
    others-more_yes (c ∷ []) (suc n) (rw q.0 refl) ∙ (λ i. all_of c n past i ++ here i ∷ []))
    (eqb_tells c (suc n))

pub lieutenants_are : (n c k : ℕ) → c < n → k + 1 ≡ n → lieutenants n c ≡ each k (λ i. lieutenant_at c i ∷ [])
lieutenants_are n c k lt e =
    let A : ℕ → Type 0 = λ m. others m (c ∷ []) ≡ each k (λ i. lieutenant_at c i ∷ []) in
    let s : suc k ≡ n = omega arith in
    subst A s (all_of c k (omega arith))

-- A lieutenant's tree is resolved to his decision in the campaign.
tree_decides : (s : Scenario) (before : List (List Letter)) (p : ℕ) (t : LieutenantTree) (d : ℕ) → IsTreeOf s before p t → Decides (combined_by s.rule) t d → d ≡ decision s (messages before) p
tree_decides s before p t d is h =
    h (messages before) is.filled ∙ (λ i. om (combined_by s.rule) (is.generals i) (messages before) (is.bound i) (is.commander i ∷ []) (is.general i))

-- The same for the lieutenants from index `k` on.
listed : (s : Scenario) (before : List (List Letter)) (ts : List LieutenantTree) (ds : List ℕ) → AllZip (Decides (combined_by s.rule)) ts ds
    → (k : ℕ) → ((i : ℕ) (t : LieutenantTree) → slice_get ts i ≡ Some t → IsTreeOf s before (lieutenant_at s.commander (k + i)) t)
    → (i d : ℕ) → slice_get ds i ≡ Some d → d ≡ decision s (messages before) (lieutenant_at s.commander (k + i))
listed s before [] [] all k trees i d at = cc
listed s before [] (x ∷ ds) all k trees i d at = absurd all
listed s before (t ∷ ts) [] all k trees i d at = cc
listed s before (t ∷ ts) (x ∷ ds) all k trees zero d at =
    let same : x ≡ d = cc in
    sym same ∙ tree_decides s before (lieutenant_at s.commander (k + 0)) t x (trees 0 t refl) all.0
listed s before (t ∷ ts) (x ∷ ds) all k trees (suc i) d at =
    let A : ℕ → Type 0 = λ j. d ≡ decision s (messages before) (lieutenant_at s.commander j) in
    let e : suc k + i ≡ k + suc i = omega arith in
    subst A e (listed s before ts ds all.1 (suc k) (λ j u h.
    (let B : ℕ → Type 0 = λ m. IsTreeOf s before (lieutenant_at s.commander m) u in
    let f : k + suc j ≡ suc k + j = omega arith in subst B f (trees (suc j) u h))) i d at)

pub zip_long : (f : List ℕ → ℕ) (ts : List LieutenantTree) (ds : List ℕ) → AllZip (Decides f) ts ds → length ts ≡ length ds
zip_long f [] [] all = refl
zip_long f [] (d ∷ ds) all = absurd all
zip_long f (t ∷ ts) [] all = absurd all
zip_long f (t ∷ ts) (d ∷ ds) all = ap suc (zip_long f ts ds all.1)

each_front : (xs : List ℕ) (f : ℕ → ℕ) → ((i x : ℕ) → slice_get xs i ≡ Some x → x ≡ f i) → (n : ℕ) → n ≤ length xs → each n (λ i. f i ∷ []) ≡ take n xs
each_front xs f h zero le = refl
each_front xs f h (suc n) le =
    let l = some_at xs n (omega arith) in
    (λ i. each_front xs f h n (omega arith) i ++ sym (h n l.0 l.1) i ∷ []) ∙ sym (snoc xs n l.0 l.1)

-- The decisions made from all trees are the lieutenants' decisions, ascending by lieutenant.
pub all_decided : (s : Scenario) (before : List (List Letter)) (h : ToldSeen) (ds : List ℕ) → s.commander < s.generals → WasTold s before h → AllZip (Decides (combined_by s.rule)) h.trees ds
    → ds ≡ decisions s (messages before)
unfolding decisions
all_decided s before h ds lt told all =
    let long : length h.trees ≡ length ds = zip_long (combined_by s.rule) h.trees ds all in
    let n = length ds in
    let f : ℕ → ℕ = λ i. decision s (messages before) (lieutenant_at s.commander i) in
    let each_one : (i d : ℕ) → slice_get ds i ≡ Some d → d ≡ f i =
    λ i d at.
    (let A : ℕ → Type 0 = λ j. d ≡ decision s (messages before) (lieutenant_at s.commander j) in
    let e : 0 + i ≡ i = omega arith in
    subst A e (listed s before h.trees ds all 0 (λ j t g. (let B : ℕ → Type 0 = λ m. IsTreeOf s before (lieutenant_at s.commander m) t in let z : j ≡ 0 + j = omega arith in subst B z (told.trees j t g))) i d at)) in
    sym (take_all n ds (omega arith))
    ∙ (sym (each_front ds f each_one n (omega arith))
    ∙ (sym (one_by_one (decision s (messages before)) n (lieutenant_at s.commander))
    ∙ ap (map (decision s (messages before))) (sym (lieutenants_are s.generals s.commander n lt (let c = told.count in omega arith)))))

-- The orders that a lieutenant took are a level of his tree.
use Rattle.std.proofs.Common.{◌≡◌, ◌≢◌, ℕ, zero, suc, ◌+◌, ◌-◌, ◌<◌, ◌≤◌, ◌^◌, List, [], ◌∷◌, length, map, take, All, subst, true, false, refl, sym, ap, ◌∙◌, Some, arith, ⊎_elim, ◌⊎◌, inl, inr, get_or, Result, Ok, Err}
use Rattle.std.specs.Prelude.{slice_get, IfOk, OnOk, Vec, ◌==◌}
use Rattle.std.proofs.lemmas.Bool.Decides.{eqb_tells}
use Rattle.std.proofs.lemmas.List.{length-map, length-take-le, take_all}
use Rattle.std.proofs.lemmas.Option.{slice_get_within}
use Rattle.label.specs.declared.shape.Shape.{Shape}
use Rattle.label.specs.Labels.{labels}
use Rattle.label.specs.Relay.{relay}
use Rattle.label.specs.Oral.{Messages, order_of, heard}
use Rattle.label.proofs.Listing.{proved_labels_are_exact}
use Rattle.tree.specs.LieutenantTree.{LieutenantTree, IsFilled, level_told}
use Rattle.round.specs.Scenario.{Scenario, IsScenario, shape_of}
use Rattle.round.specs.Letters.{Letter, messages}
use Rattle.round.specs.Contexts.{took, context_bytes, context_numbers, context_of, AreWords}
use Rattle.std.specs.declared.alloc.Global.{Global}
use Rattle.round.specs.Told.{IsTreeOf, ToldSeen, WasTold, lieutenant_at}
use Rattle.round.proofs.Delivering.{same_map}
use Rattle.round.proofs.Filling.{own_tree}
use Rattle.round.proofs.Fronts.{messages-front}
use Rattle.semantics.proofs.PlacesLaws.{round_few}

map_twice : {B C : Type 0} (F : B → C) (G : List ℕ → B) (ws : List (List ℕ)) → map (λ w. F (G w)) ws ≡ map F (map G ws)
map_twice F G [] = refl
map_twice F G (w ∷ ws) = ap (λ l. F (G w) ∷ l) (map_twice F G ws)

heard_taken : (M : Messages) (order g : ℕ) (w : List ℕ) → 0 < length w → heard M order w g ≡ order_of (M w g)
heard_taken M order g [] s = absurd (omega arith)
heard_taken M order g (x ∷ w) s = refl

relay_lieutenant : (s : Scenario) (g k : ℕ) → g ≢ s.commander → relay (shape_of s g (suc k)) ≡ labels s.generals s.commander g k
relay_lieutenant s g k ne = ⊎_elim
    (λ (q : (g == s.commander ≡ true) × (g ≡ s.commander)). absurd (ne q.1))
    (λ (q : (g == s.commander ≡ false) × (g ≢ s.commander)). rw q.0 (let e : suc k - 1 ≡ k = omega arith in ap (λ (j : ℕ). labels s.generals s.commander g j) e))
    (eqb_tells g s.commander)

-- They are the level for labels as long as the number of the previous round, where a missing order is RETREAT.
pub values_level : (s : Scenario) (before : List (List Letter)) (g k : ℕ) → s.commander < s.generals → g < s.generals → g ≢ s.commander → 0 < k →
    map (took s before g) (relay (shape_of s g (suc k))) ≡ map order_of (level_told s.generals s.commander g (messages before) k)
values_level s before g k commander general ne some =
    ap (map (took s before g)) (relay_lieutenant s g k ne)
    ∙ (same_map (took s before g) (λ w. order_of (messages before w g)) (labels s.generals s.commander g k)
    (λ i w at. heard_taken (messages before) s.order g w (let e = (proved_labels_are_exact.only s.generals s.commander g k i w commander general ne at).2 in omega arith))
    ∙ map_twice order_of (λ w. messages before w g) (labels s.generals s.commander g k))

-- The level of a length depends only on as many rounds.
level_front : (s : Scenario) (before : List (List Letter)) (g k : ℕ) → s.commander < s.generals → g < s.generals → g ≢ s.commander → 0 < k →
    level_told s.generals s.commander g (messages before) k ≡ level_told s.generals s.commander g (messages (take k before)) k
level_front s before g k commander general ne some =
    same_map (λ w. messages before w g) (λ w. messages (take k before) w g) (labels s.generals s.commander g k)
    (λ i w at. by w ((proved_labels_are_exact.only s.generals s.commander g k i w commander general ne at).2))
  where
    by : (w : List ℕ) → length w ≡ k → messages before w g ≡ messages (take k before) w g
    by [] e = absurd (omega arith)
    by (x ∷ w) e = sym (messages-front before k x w g (omega arith))

-- The level of a length has what these rounds have delivered.
own_level : (s : Scenario) (before : List (List Letter)) (g k : ℕ) (t : LieutenantTree) (level : List ℕ) → IsScenario s → IsTreeOf s before g t → 0 < k →
    ((M : Messages) → IsFilled t M → level ≡ map order_of (level_told t.generals t.commander t.general M k)) → level ≡ map order_of (level_told s.generals s.commander g (messages (take k before)) k)
own_level s before g k t level is h some told =
    told (messages before) h.filled
    ∙ ap (map order_of) ((λ i. level_told (h.generals i) (h.commander i) (h.general i) (messages before) k) ∙ level_front s before g k is.commander h.within h.lieutenant some)

-- The numbers of a later context come from the tree's level.
later_is : (s : Scenario) (before : List (List Letter)) (g k bound : ℕ) (t : LieutenantTree) (shape : Shape) (level : List ℕ) → IsScenario s → IsTreeOf s before g t → k ≤ length before → 0 < k → shape ≡ shape_of s g (k + 1) → bound ≡ s.bound →
    ((M : Messages) → IsFilled t M → level ≡ map order_of (level_told t.generals t.commander t.general M k)) → context_bytes (context_numbers shape bound level) ≡ context_of s (take k before) g
later_is s before g k bound t shape level is h le some es eb told =
    let front : List (List Letter) = take k before in
    let long : length front ≡ k = length-take-le k before le in
    let round : k + 1 ≡ suc (length front) = omega arith in
    let size : suc k ≡ suc (length front) = omega arith in
    let own : level ≡ map order_of (level_told s.generals s.commander g (messages front) k) = own_level s before g k t level is h some told in
    let values : level ≡ map (took s front g) (relay (shape_of s g (suc (length front)))) =
    own ∙ (sym (values_level s front g k is.commander h.within h.lieutenant some) ∙ ap (λ (j : ℕ). map (took s front g) (relay (shape_of s g j))) size) in
    let there : shape ≡ shape_of s g (suc (length front)) = es ∙ ap (λ (j : ℕ). shape_of s g j) round in
    (λ i. context_bytes (context_numbers (there i) (eb i) (values i)))

pub few_values : (s : Scenario) (before : List (List Letter)) (g k : ℕ) (t : LieutenantTree) (level : List ℕ) → IsScenario s → IsTreeOf s before g t → k ≤ s.bound → length level ≡ length (labels t.generals t.commander t.general k) → length level ≤ 1000
few_values s before g k t level is h le long =
    let same : length (labels t.generals t.commander t.general k) ≡ length (labels s.generals s.commander g k) = (λ i. length (labels (h.generals i) (h.commander i) (h.general i) k)) in
    let few : length (labels s.generals s.commander g k) ≤ 1000 = (let l = round_few s.generals s.commander g k is.few is.commander h.within h.lieutenant (let r = is.rounds in omega arith) in omega arith) in
    omega arith

none_relayed : (s : Scenario) (g k : ℕ) → (g ≢ s.commander → k ≡ 0) → (((g ≡ s.commander) × (k + 1 ≢ 1)) ⊎ (g ≢ s.commander)) → relay (shape_of s g (suc k)) ≡ []
unfolding labels
none_relayed s g k first other = ⊎_elim
    (λ (q : (g == s.commander ≡ true) × (g ≡ s.commander)). rw q.0 (⊎_elim
    (λ (h : (g ≡ s.commander) × (k + 1 ≢ 1)). ⊎_elim
    (λ (r : (suc k == 1 ≡ true) × (suc k ≡ 1)). absurd (h.1 (let e = r.1 in omega arith)))
    (λ (r : (suc k == 1 ≡ false) × (suc k ≢ 1)). rw r.0 refl)
    (eqb_tells (suc k) 1))
    (λ (h : g ≢ s.commander). absurd (h q.1))
    other))
    (λ (q : (g == s.commander ≡ false) × (g ≢ s.commander)). rw q.0 (let e : suc k - 1 ≡ 0 = (let z = first q.1 in omega arith) in ap (λ (j : ℕ). labels s.generals s.commander g j) e))
    (eqb_tells g s.commander)

-- The numbers of a context without orders.
pub first_is : (s : Scenario) (before : List (List Letter)) (g k bound : ℕ) (shape : Shape) → k ≡ length before → shape ≡ shape_of s g (k + 1) → bound ≡ s.bound → (g ≢ s.commander → k ≡ 0) → (((shape.general ≡ shape.commander) × (k + 1 ≢ 1)) ⊎ (shape.general ≢ shape.commander)) →
    context_bytes (context_numbers shape bound []) ≡ context_of s before g
first_is s before g k bound shape ek es eb first other =
    let round : k + 1 ≡ suc (length before) = omega arith in
    let there : shape ≡ shape_of s g (suc (length before)) = es ∙ ap (λ (j : ℕ). shape_of s g j) round in
    let size : suc k ≡ suc (length before) = omega arith in
    let none : relay (shape_of s g (suc k)) ≡ [] = none_relayed s g k first (rw es at other) in
    let values : [] ≡ map (took s before g) (relay (shape_of s g (suc (length before)))) =
    sym (ap (map (took s before g)) (ap (λ (j : ℕ). relay (shape_of s g j)) (sym size) ∙ none)) in
    (λ i. context_bytes (context_numbers (there i) (eb i) (values i)))

-- The context in the first round.
pub first_told : {E : Type 0} (r : Result (Vec ℕ Global) E) (s : Scenario) (h : ToldSeen) (g k : ℕ) → k ≡ 0 → IfOk r (λ v. v.items ≡ context_of s [] g) →
    IfOk r (λ v. (before : List (List Letter)) → WasTold s before h → v.items ≡ context_of s (take k before) g)
first_told (Ok v) s h g k none is = λ before told. is ∙ ap (λ (j : ℕ). context_of s (take j before) g) (sym none)
first_told (Err e) s h g k none is = tt

-- The commander's context in a later round.
pub commander_told : {E : Type 0} (r : Result (Vec ℕ Global) E) (s : Scenario) (h : ToldSeen) (g bound k : ℕ) (shape : Shape) → k ≤ h.rounds → (k ≡ 0 → ⊥) → g ≡ s.commander → shape ≡ shape_of s g (k + 1) → bound ≡ s.bound →
    IfOk r (λ v. v.items ≡ context_bytes (context_numbers shape bound [])) → IfOk r (λ v. (before : List (List Letter)) → WasTold s before h → v.items ≡ context_of s (take k before) g)
commander_told (Ok v) s h g bound k shape le some eg es eb is =
    λ before told.
    let long : length (take k before) ≡ k = length-take-le k before (let e = told.rounds in omega arith) in
    is ∙ first_is s (take k before) g k bound shape (sym long) es eb (λ ne. absurd (ne eg)) (inl (ap (λ (x : Shape). x.general) es ∙ (eg ∙ sym (ap (λ (x : Shape). x.commander) es)), λ e. some (omega arith)))
commander_told (Err e) s h g bound k shape le some eg es eb is = tt

-- A lieutenant's context in a later round.
pub later_told : {E : Type 0} (r : Result (Vec ℕ Global) E) (s : Scenario) (h : ToldSeen) (g bound k i : ℕ) (t : LieutenantTree) (shape : Shape) (level : List ℕ) → IsScenario s → k ≤ h.rounds → (k ≡ 0 → ⊥) → lieutenant_at s.commander i ≡ g → i < length h.trees → t ≡ get_or h.trees i t →
    shape ≡ shape_of s g (k + 1) → bound ≡ s.bound → ((M : Messages) → IsFilled t M → level ≡ map order_of (level_told t.generals t.commander t.general M k)) →
    IfOk r (λ v. v.items ≡ context_bytes (context_numbers shape bound level)) → IfOk r (λ v. (before : List (List Letter)) → WasTold s before h → v.items ≡ context_of s (take k before) g)
later_told (Ok v) s h g bound k i t shape level is le some there lt at es eb told_level bytes =
    λ before told. bytes ∙ later_is s before g k bound t shape level is (own_tree s before h i g t told lt at there) (let e = told.rounds in omega arith) (omega arith) es eb told_level
later_told (Err e) s h g bound k i t shape level is le some there lt at es eb told_level bytes = tt

-- A lieutenant's context in the first round.
pub opening_told : {E : Type 0} (r : Result (Vec ℕ Global) E) (s : Scenario) (g bound : ℕ) (shape : Shape) → g ≢ s.commander → shape ≡ shape_of s g 1 → bound ≡ s.bound →
    IfOk r (λ v. v.items ≡ context_bytes (context_numbers shape bound [])) → IfOk r (λ v. v.items ≡ context_of s [] g)
opening_told (Ok v) s g bound shape ne es eb is =
    is ∙ first_is s [] g 0 bound shape refl es eb (λ h. refl) (inr (λ e. ne (sym (ap (λ (x : Shape). x.general) es) ∙ (e ∙ ap (λ (x : Shape). x.commander) es))))
opening_told (Err e) s g bound shape ne es eb is = tt

get_map : {B : Type 0} (F : List ℕ → B) (ws : List (List ℕ)) (i : ℕ) (w : List ℕ) (d : B) → slice_get ws i ≡ Some w → get_or (map F ws) i d ≡ F w
get_map F [] i w d e = cc
get_map F (x ∷ ws) zero w d e = (let same : x ≡ w = cc in ap F same)
get_map F (x ∷ ws) (suc i) w d e = get_map F ws i w d e

-- The orders in a level of a lieutenant's tree have 32 bits.
pub words_told : (s : Scenario) (before : List (List Letter)) (h : ToldSeen) (g k i : ℕ) (t : LieutenantTree) (level : List ℕ) → IsScenario s → WasTold s before h → k ≤ h.rounds → (k ≡ 0 → ⊥) → lieutenant_at s.commander i ≡ g → i < length h.trees → t ≡ get_or h.trees i t →
    ((M : Messages) → IsFilled t M → level ≡ map order_of (level_told t.generals t.commander t.general M k)) → All (λ v. v < 2 ^ 32) level → AreWords s (take k before) g
words_told s before h g k i t level is told le some there lt at told_level small rank u place =
    let front : List (List Letter) = take k before in
    let tree = own_tree s before h i g t told lt at there in
    let long_front : length front ≡ k = length-take-le k before (let e = told.rounds in omega arith) in
    let round : suc k ≡ suc (length front) = ap suc (sym long_front) in
    let own : level ≡ map order_of (level_told s.generals s.commander g (messages front) k) = own_level s before g k t level is tree (omega arith) told_level in
    let here : slice_get (labels s.generals s.commander g k) rank ≡ Some u =
    ap (λ (ws : List (List ℕ)). slice_get ws rank) (sym (relay_lieutenant s g k tree.lieutenant) ∙ ap (λ (j : ℕ). relay (shape_of s g j)) round) ∙ place in
    let inside : rank < length (labels s.generals s.commander g k) = slice_get_within (labels s.generals s.commander g k) rank u here in
    let orders : level ≡ map (λ w. order_of (messages front w g)) (labels s.generals s.commander g k) = own ∙ sym (map_twice order_of (λ w. messages front w g) (labels s.generals s.commander g k)) in
    let value : get_or level rank 0 ≡ order_of (messages front u g) = ap (λ (l : List ℕ). get_or l rank 0) orders ∙ get_map (λ w. order_of (messages front w g)) (labels s.generals s.commander g k) rank u 0 here in
    let long : length level ≡ length (labels s.generals s.commander g k) = ap length orders ∙ length-map (labels s.generals s.commander g k) (λ w. order_of (messages front w g)) in
    let few = small rank 0 (omega arith) in
    let size = (proved_labels_are_exact.only s.generals s.commander g k rank u is.commander tree.within tree.lieutenant here).2 in
    let heard_is : took s front g u ≡ order_of (messages front u g) = heard_taken (messages front) s.order g u (omega arith) in
    (let P : ℕ → Type 0 = λ n. n < 2 ^ 32 in subst P (sym (heard_is ∙ sym value)) few)

no_labels : (n c p : ℕ) → labels n c p 0 ≡ []
unfolding labels
no_labels n c p = refl

none_there : (ws : List (List ℕ)) (rank : ℕ) (u : List ℕ) → ws ≡ [] → slice_get ws rank ≡ Some u → ⊥
none_there ws rank u e at = by rank (ap (λ (l : List (List ℕ)). slice_get l rank) (sym e) ∙ at)
  where
    by : (rank : ℕ) → slice_get [] rank ≡ Some u → ⊥
    by zero e = cc
    by (suc rank) e = cc

only_empty : (rank : ℕ) (u : List ℕ) → slice_get ([] ∷ []) rank ≡ Some u → u ≡ []
only_empty zero u e = cc
only_empty (suc rank) u e = cc

-- In the first round the commander takes his order, and the others none. Later the commander takes none.
pub words_first : (s : Scenario) (before : List (List Letter)) (g : ℕ) → IsScenario s → ((length before ≡ 0) ⊎ (g ≡ s.commander)) → AreWords s before g
words_first s before g is first rank u place = ⊎_elim
    (λ (q : (g == s.commander ≡ true) × (g ≡ s.commander)). ⊎_elim
    (λ (r : (suc (length before) == 1 ≡ true) × (suc (length before) ≡ 1)).
    let only : relay (shape_of s g (suc (length before))) ≡ [] ∷ [] = rw (q.0, r.0) refl in
    let empty : u ≡ [] = only_empty rank u (ap (λ (ws : List (List ℕ)). slice_get ws rank) (sym only) ∙ place) in
    (let P : List ℕ → Type 0 = λ w. took s before g w < 2 ^ 32 in subst P (sym empty) is.order))
    (λ (r : (suc (length before) == 1 ≡ false) × (suc (length before) ≢ 1)).
    absurd (none_there (relay (shape_of s g (suc (length before)))) rank u (rw (q.0, r.0) refl) place))
    (eqb_tells (suc (length before)) 1))
    (λ (q : (g == s.commander ≡ false) × (g ≢ s.commander)).
    let none : length before ≡ 0 = ⊎_elim (λ (z : length before ≡ 0). z) (λ (z : g ≡ s.commander). absurd (q.1 z)) first in
    absurd (none_there (relay (shape_of s g (suc (length before)))) rank u (relay_lieutenant s g (length before) q.1 ∙ (ap (labels s.generals s.commander g) none ∙ no_labels s.generals s.commander g)) place))
    (eqb_tells g s.commander)

-- A fact about success follows from another one.
pub on_ok : {A E : Type 0} (r : Result A E) (P Q : Type 0) → (P → Q) → OnOk r P → OnOk r Q
on_ok (Ok a) P Q f h = f h
on_ok (Err e) P Q f h = tt

pub always_ok : {A E : Type 0} (r : Result A E) (Q : Type 0) → Q → OnOk r Q
always_ok (Ok a) Q h = h
always_ok (Err e) Q h = tt

-- The first rounds are all rounds if as many were delivered.
all_of : (s : Scenario) (before : List (List Letter)) (h : ToldSeen) (k : ℕ) → k ≡ h.rounds → WasTold s before h → take k before ≡ before
all_of s before h k e told = take_all k before (let r = told.rounds in omega arith)

pub all_told : {E : Type 0} (r : Result (Vec ℕ Global) E) (s : Scenario) (h : ToldSeen) (g k : ℕ) → k ≡ h.rounds → IfOk r (λ v. (before : List (List Letter)) → WasTold s before h → v.items ≡ context_of s (take k before) g) →
    IfOk r (λ v. (before : List (List Letter)) → WasTold s before h → v.items ≡ context_of s before g)
all_told (Ok v) s h g k e is = λ before told. is before told ∙ ap (λ (b : List (List Letter)). context_of s b g) (all_of s before h k e told)
all_told (Err x) s h g k e is = tt

pub all_words : {E : Type 0} (r : Result (Vec ℕ Global) E) (s : Scenario) (h : ToldSeen) (g k : ℕ) → k ≡ h.rounds → OnOk r ((before : List (List Letter)) → WasTold s before h → AreWords s (take k before) g) →
    OnOk r ((before : List (List Letter)) → WasTold s before h → AreWords s before g)
all_words (Ok v) s h g k e are = λ before told. (let P : List (List Letter) → Type 0 = λ b. AreWords s b g in subst P (all_of s before h k e told) (are before told))
all_words (Err x) s h g k e are = tt

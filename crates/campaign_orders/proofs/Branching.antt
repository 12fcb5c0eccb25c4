-- Sums over the orders of rounds, access by access and round by round.
use Rattle.std.proofs.Common.{◌≡◌, ℕ, zero, suc, ◌+◌, List, [], ◌∷◌, ◌++◌, length, map, refl, sym, ap, ◌∙◌, arith}
use Rattle.std.specs.Prelude.{sum_by, cond, bytes_eq, slice_get}
use Rattle.std.proofs.lemmas.List.Sums.{sum_by-cons, sum_by-append}
use Rattle.round.specs.Scenario.{Scenario}
use Rattle.world.specs.Kind.{World, opening, run}
use Rattle.world.specs.KindLists.{names_events, wound_up, ticks_named, replayed_rounds}
use Rattle.world.specs.World.{oral_kind}
use Rattle.world.proofs.Moves.{run-append}
use Rattle.world.proofs.Punctual.{run_scenario}
use Rattle.campaign_orders.specs.Orders.{past, behind}
use Rattle.campaign_orders.specs.Listing.{askers, branch, or_end, round_orders, orders_from, orders, most_in_round}
use Rattle.campaign_orders.specs.Exploring.{ways_to}
use Rattle.campaign_orders.specs.Layers.{IsCommon, or_sum, stepped, over_round, over_rounds}
use Rattle.campaign_orders.specs.Outcomes.{oral_outcome}
use Rattle.campaign_orders.proofs.Merging.{behind_alike, round_lists}

-- Sums of functions that agree everywhere are the same.
sum_by_each : {A : Type 0} (f g : A → ℕ) → ((x : A) → f x ≡ g x) → (xs : List A) → sum_by f xs ≡ sum_by g xs
sum_by_each {A} f g h xs = λ i. sum_by (λ (x : A). h x i) xs

sum_by_map : {A B : Type 0} (f : B → ℕ) (g : A → B) (xs : List A) → sum_by f (map g xs) ≡ sum_by (λ x. f (g x)) xs
sum_by_map f g [] = refl
sum_by_map {A} f g (x ∷ xs) =
    let a = sum_by-cons f (g x) (map g xs) in
    let b = sum_by-cons (λ (y : A). f (g y)) x xs in
    let c = sum_by_map f g xs in
    omega arith

-- A sum over lists that begin with a choice.
sum_branch : {A : Type 0} (f : List A → ℕ) (gs : List A) (later : A → List (List A)) → sum_by f (branch gs later) ≡ sum_by (λ g. sum_by (λ rest. f (g ∷ rest)) (later g)) gs
sum_branch f [] later = refl
sum_branch {A} f (g ∷ gs) later =
    let h : A → ℕ = λ x. sum_by (λ (rest : List A). f (x ∷ rest)) (later x) in
    let a : sum_by f (branch (g ∷ gs) later) ≡ sum_by f (map (λ (rest : List A). g ∷ rest) (later g)) + sum_by f (branch gs later) = sum_by-append f (map (λ (rest : List A). g ∷ rest) (later g)) (branch gs later) in
    let b : sum_by f (map (λ (rest : List A). g ∷ rest) (later g)) ≡ h g = sum_by_map f (λ (rest : List A). g ∷ rest) (later g) in
    let c : sum_by f (branch gs later) ≡ sum_by h gs = sum_branch f gs later in
    let d = sum_by-cons h g gs in
    omega arith

sum_or : (f : List ℕ → ℕ) (gs : List ℕ) (later : ℕ → List (List ℕ)) → sum_by f (or_end gs later) ≡ or_sum gs (f []) (λ g. sum_by (λ rest. f (g ∷ rest)) (later g))
sum_or f [] later = (let a = sum_by-cons f [] [] in a ∙ (let z : sum_by f [] ≡ 0 = refl in omega arith))
sum_or f (g ∷ gs) later = sum_branch f (g ∷ gs) later

-- One access is made, and then the others.
behind_past : (w : World) (g : ℕ) (names : List ℕ) → behind oral_kind w (g ∷ names) ≡ behind oral_kind (past oral_kind w g) names
behind_past w g names =
    let ticks = ticks_named g (slice_get w.parts g) in
    let v = past oral_kind w g in
    let rest = names_events oral_kind v names in
    let same : v.scenario ≡ w.scenario = run_scenario oral_kind ticks w in
    run-append oral_kind (ticks ++ rest) (wound_up w.scenario) w
    ∙ (ap (λ (u : World). run oral_kind u (wound_up w.scenario)) (run-append oral_kind ticks rest w)
    ∙ (ap (λ (s : Scenario). run oral_kind (run oral_kind v rest) (wound_up s)) (sym same) ∙ sym (run-append oral_kind rest (wound_up v.scenario) v)))

pub last_step : (h : World → ℕ) (w : World) → over_round zero h w ≡ stepped (λ v. 0) h w
last_step h w = sum_or (λ (names : List ℕ). h (behind oral_kind w names)) (askers w) (λ (g : ℕ). [])

pub next_step : (k : ℕ) (h : World → ℕ) (w : World) → over_round (suc k) h w ≡ stepped (over_round k h) h w
next_step k h w =
    sum_or (λ (names : List ℕ). h (behind oral_kind w names)) (askers w) (λ (g : ℕ). round_orders oral_kind k (past oral_kind w g))
    ∙ (λ i. or_sum (askers w) (h (behind oral_kind w [])) (λ (g : ℕ). sum_by (λ (rest : List ℕ). h (behind_past w g rest i)) (round_orders oral_kind k (past oral_kind w g))))

-- Alike worlds have the same sums.
pub round_common : (most : ℕ) (h : World → ℕ) → IsCommon h → IsCommon (over_round most h)
round_common most h common w v alike =
    (λ i. sum_by (λ (names : List ℕ). common (behind oral_kind w names) (behind oral_kind v names) (behind_alike names w v alike) i) (round_lists most w v alike i))

pub rounds_common : (most k : ℕ) (h : World → ℕ) → IsCommon h → IsCommon (over_rounds most k h)
rounds_common most zero h common = common
rounds_common most (suc k) h common = round_common most (over_rounds most k h) (rounds_common most k h common)

-- A number for each world in which an order ends, summed over these worlds.
pub over_orders : (h : World → ℕ) (most k : ℕ) (w : World) → sum_by (λ order. h (run oral_kind w (replayed_rounds oral_kind w k order))) (orders_from oral_kind most w k) ≡ over_rounds most k h w
over_orders h most zero w = (let a = sum_by-cons (λ (order : List (List ℕ)). h w) [] [] in a ∙ (let z : sum_by (λ (order : List (List ℕ)). h w) [] ≡ 0 = refl in omega arith))
over_orders h most (suc k) w =
    let f : List (List ℕ) → ℕ = λ order. h (run oral_kind w (replayed_rounds oral_kind w (suc k) order)) in
    sum_branch f (round_orders oral_kind most w) (λ (names : List ℕ). orders_from oral_kind most (behind oral_kind w names) k)
    ∙ (λ i. sum_by (λ (names : List ℕ). (sum_by_each (λ (rest : List (List ℕ)). f (names ∷ rest))
    (λ (rest : List (List ℕ)). h (run oral_kind (behind oral_kind w names) (replayed_rounds oral_kind (behind oral_kind w names) k rest)))
    (λ rest. ap h (run-append oral_kind (names_events oral_kind w names ++ wound_up w.scenario) (replayed_rounds oral_kind (behind oral_kind w names) k rest) w))
    (orders_from oral_kind most (behind oral_kind w names) k)
    ∙ over_orders h most k (behind oral_kind w names)) i) (round_orders oral_kind most w))

-- So the number of orders that lead to some decisions is such a sum, and so is the number of all orders.
pub ways_over : (s : Scenario) (ds : List ℕ) → ways_to oral_kind oral_outcome s ds ≡ over_rounds (most_in_round s) (suc s.bound) (λ w. cond (bytes_eq (oral_outcome w) ds) 1 0) (opening oral_kind s)
ways_over s ds = over_orders (λ w. cond (bytes_eq (oral_outcome w) ds) 1 0) (most_in_round s) (suc s.bound) (opening oral_kind s)

sum_ones : {A : Type 0} (xs : List A) → sum_by (λ x. 1) xs ≡ length xs
sum_ones [] = refl
sum_ones {A} (x ∷ xs) = (let a = sum_by-cons (λ (y : A). 1) x xs in let b = sum_ones xs in omega arith)

pub orders_over : (s : Scenario) → length (orders oral_kind s) ≡ over_rounds (most_in_round s) (suc s.bound) (λ w. 1) (opening oral_kind s)
orders_over s = sym (sum_ones (orders oral_kind s)) ∙ over_orders (λ w. 1) (most_in_round s) (suc s.bound) (opening oral_kind s)

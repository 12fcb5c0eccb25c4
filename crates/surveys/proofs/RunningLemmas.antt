-- The counts of two parts of a survey, added up, are the counts of both.
use Rattle.std.proofs.Common.{ℕ, ◌+◌, ◌<◌, ◌^◌, ◌≡◌, Bool, not, cond, List, [], ◌∷◌, ◌++◌, length, refl, sym, ap, ◌∙◌, arith, append_assoc, length-append, Option}
use Rattle.std.specs.Prelude.{◌==◌, count_by, filter, flat_map}
use Rattle.std.specs.List.{range_with_len}
use Rattle.std.proofs.lemmas.List.Elements.{filter-append}
use Rattle.std.proofs.lemmas.List.Sums.{count_by-le-length, length-filter, sum_by-append}
use Rattle.surveys.specs.declared.finding.Finding.{Finding}
use Rattle.surveys.specs.declared.group.Group.{Group}
use Rattle.surveys.specs.declared.sums.CampaignOutcome.{CampaignOutcome}
use Rattle.surveys.specs.declared.sums.CampaignOutcome.TheVariants.{Kept, Broken, Disobeyed}
use Rattle.surveys.specs.declared.sums.Sums.{Sums}
use Rattle.surveys.specs.declared.sums.Tally.{Tally}
use Rattle.surveys.specs.Groups.{all_groups, failed_in, group_of, groups_by_bound, groups_in, of_bound, of_generals, of_traitors}
use Rattle.surveys.specs.Running.{Counts, added, counts_of, group_added, groups_added, sums_added, tally_added}
use Rattle.surveys.specs.Sums.{has, is_sound, least, lesser, sums_of, tally_of}
use Rattle.surveys.proofs.SumLemmas.{least-append}

added_few : (a b : ℕ) → a + b < 2 ^ 64 → added a b ≡ a + b
added_few a b few = omega arith

counted : (p : Finding → Bool) (front back : List Finding) → length front + length back < 2 ^ 64 → added (count_by p front) (count_by p back) ≡ count_by p (front ++ back)
counted p front back few =
    let a = count_by-le-length p front in
    let b = count_by-le-length p back in
    added_few (count_by p front) (count_by p back) (omega arith) ∙ sym (sum_by-append (λ f. cond (p f) 1 0) front back)

abbrev tally : ℕ → Option ℕ → Tally
tally c a = record { count = c; first = a }

tally_both : (o : CampaignOutcome) (front back : List Finding) → length front + length back < 2 ^ 64 → tally_added (tally_of o front) (tally_of o back) ≡ tally_of o (front ++ back)
tally_both o front back few = λ j. tally (counted (has o) front back few j) (sym (least-append o front back) j)

abbrev sums : ℕ → Tally → Tally → Tally → Sums
sums n a b c = record { campaigns = n; kept = a; broken = b; disobeyed = c }

pub sums_both : (front back : List Finding) → length front + length back < 2 ^ 64 → sums_added (sums_of front) (sums_of back) ≡ sums_of (front ++ back)
sums_both front back few =
    let whole : added (length front) (length back) ≡ length (front ++ back) = added_few (length front) (length back) few ∙ sym (length-append front back) in
    λ j. sums (whole j) (tally_both Kept front back few j) (tally_both Broken front back few j) (tally_both Disobeyed front back few j)

-- Of few campaigns, those that pass a test are few.
some_few : (p : Finding → Bool) (front back : List Finding) → length front + length back < 2 ^ 64 → length (filter p front) + length (filter p back) < 2 ^ 64
some_few p front back few =
    let a = count_by-le-length p front in
    let b = count_by-le-length p back in
    let c = length-filter p front in
    let d = length-filter p back in
    omega arith

abbrev group : ℕ → ℕ → ℕ → Sums → ℕ → Group
group n m t s f = record { generals = n; bound = m; traitors = t; sums = s; failed = f }

group_both : (n m t : ℕ) (front back : List Finding) → length front + length back < 2 ^ 64 → group_added (group_of n m front t) (group_of n m back t) ≡ group_of n m (front ++ back) t
group_both n m t front back few =
    let cut : of_traitors t front ++ of_traitors t back ≡ of_traitors t (front ++ back) = sym (filter-append (λ (f : Finding). f.traitors == t) front back) in
    let fewer = some_few (λ (f : Finding). f.traitors == t) front back few in
    let a = sums_both (of_traitors t front) (of_traitors t back) fewer ∙ ap sums_of cut in
    let b = counted (λ (f : Finding). not (is_sound f.verdict)) (of_traitors t front) (of_traitors t back) fewer ∙ ap failed_in cut in
    λ j. group n m t (a j) (b j)

added_on : (gs fs xs ys : List Group) → length gs ≡ length fs → groups_added (gs ++ xs) (fs ++ ys) ≡ groups_added gs fs ++ groups_added xs ys
added_on [] [] xs ys e = refl
added_on [] (f ∷ fs) xs ys e = absurd (omega (arith, e))
added_on (g ∷ gs) [] xs ys e = absurd (omega (arith, e))
added_on (g ∷ gs) (f ∷ fs) xs ys e = ap (λ (l : List Group). group_added g f ∷ l) (added_on gs fs xs ys (omega (arith, e)))

-- Lists that are made piece by piece, with a piece for each number, are added piece by piece.
flat_long : (g h : ℕ → List Group) (keys : List ℕ) → ((x : ℕ) → length (g x) ≡ length (h x)) → length (flat_map g keys) ≡ length (flat_map h keys)
flat_long g h [] l = refl
flat_long g h (x ∷ keys) l =
    length-append (g x) (flat_map g keys) ∙ ((λ j. l x j + flat_long g h keys l j) ∙ sym (length-append (h x) (flat_map h keys)))

flat_both : (g h k : ℕ → List Group) (keys : List ℕ) → ((x : ℕ) → length (g x) ≡ length (h x)) → ((x : ℕ) → groups_added (g x) (h x) ≡ k x) → groups_added (flat_map g keys) (flat_map h keys) ≡ flat_map k keys
flat_both g h k [] l e = refl
flat_both g h k (x ∷ keys) l e =
    added_on (g x) (h x) (flat_map g keys) (flat_map h keys) (l x) ∙ (λ j. e x j ++ flat_both g h k keys l e j)

long_in : (n m : ℕ) (front back : List Finding) → length (groups_in n m front) ≡ length (groups_in n m back)
unfolding groups_in
long_in n m front back = flat_long (λ t. group_of n m front t ∷ []) (λ t. group_of n m back t ∷ []) (range_with_len 0 14) (λ t. refl)

both_in : (n m : ℕ) (front back : List Finding) → length front + length back < 2 ^ 64 → groups_added (groups_in n m front) (groups_in n m back) ≡ groups_in n m (front ++ back)
unfolding groups_in
both_in n m front back few =
    flat_both (λ t. group_of n m front t ∷ []) (λ t. group_of n m back t ∷ []) (λ t. group_of n m (front ++ back) t ∷ []) (range_with_len 0 14) (λ t. refl)
    (λ t. ap (λ (g : Group). g ∷ []) (group_both n m t front back few))

long_by_bound : (n : ℕ) (front back : List Finding) → length (groups_by_bound n front) ≡ length (groups_by_bound n back)
unfolding groups_by_bound
long_by_bound n front back = flat_long (λ m. groups_in n m (of_bound m front)) (λ m. groups_in n m (of_bound m back)) (range_with_len 0 5) (λ m. long_in n m (of_bound m front) (of_bound m back))

both_by_bound : (n : ℕ) (front back : List Finding) → length front + length back < 2 ^ 64 → groups_added (groups_by_bound n front) (groups_by_bound n back) ≡ groups_by_bound n (front ++ back)
unfolding groups_by_bound
both_by_bound n front back few =
    flat_both (λ m. groups_in n m (of_bound m front)) (λ m. groups_in n m (of_bound m back)) (λ m. groups_in n m (of_bound m (front ++ back))) (range_with_len 0 5) (λ m. long_in n m (of_bound m front) (of_bound m back))
    (λ m. both_in n m (of_bound m front) (of_bound m back) (some_few (λ (f : Finding). f.bound == m) front back few) ∙ ap (groups_in n m) (sym (filter-append (λ (f : Finding). f.bound == m) front back)))

pub groups_both : (front back : List Finding) → length front + length back < 2 ^ 64 → groups_added (all_groups front) (all_groups back) ≡ all_groups (front ++ back)
unfolding all_groups
groups_both front back few =
    flat_both (λ n. groups_by_bound n (of_generals n front)) (λ n. groups_by_bound n (of_generals n back)) (λ n. groups_by_bound n (of_generals n (front ++ back))) (range_with_len 0 14) (λ n. long_by_bound n (of_generals n front) (of_generals n back))
    (λ n. both_by_bound n (of_generals n front) (of_generals n back) (some_few (λ (f : Finding). f.generals == n) front back few) ∙ ap (groups_by_bound n) (sym (filter-append (λ (f : Finding). f.generals == n) front back)))

abbrev counts : Sums → List Group → Counts
counts s g = record { sums = s; groups = g }

-- Counts to which further campaigns are added.
pub counts_both : (front back : List Finding) (s : Sums) (g : List Group) → length front + length back < 2 ^ 64 → s ≡ sums_added (sums_of front) (sums_of back) → g ≡ groups_added (all_groups front) (all_groups back) → counts s g ≡ counts_of (front ++ back)
counts_both front back s g few is are = λ j. counts ((is ∙ sums_both front back few) j) ((are ∙ groups_both front back few) j)

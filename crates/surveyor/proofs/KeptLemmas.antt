-- Lemmas about writing campaigns to files, one after the other.
use Rattle.std.proofs.Common.{ℕ, ◌+◌, ◌<◌, ◌≡◌, List, [], ◌∷◌, ◌++◌, length, map, take, get_or, refl, sym, ap, subst, ◌∙◌, append_assoc, append-nil, Option, None, Some, Bool, true, false}
use Rattle.std.specs.Prelude.{String, cond, flat_map, string_bytes}
use Rattle.std.specs.Global.{Global}
use Rattle.std.proofs.lemmas.List.{map_more, take_more}
use Rattle.surveys.specs.declared.finding.Finding.{Finding}
use Rattle.surveys.specs.Family.{Family}
use Rattle.surveys.specs.Sums.{is_sound}
use Rattle.surveys.specs.Wording.{campaign_text}
use Rattle.surveys.specs.declared.breach.Breach.{Breach}
use Rattle.surveyor.specs.Kept.{File, Gains, breach_file, breach_files, campaign_file, campaign_files, kept_name}
use Rattle.surveys.specs.Covering.{seeds_in}
use Rattle.surveyor.specs.Printed.{broken_seeds, kept_seeds}

pub none_gained : (a : Option (List File)) → Gains a a []
none_gained None = tt
none_gained (Some x) = ap Some (sym (append-nil x))

pub both_gained : (a b c : Option (List File)) (xs ys : List File) → Gains a b xs → Gains b c ys → Gains a c (xs ++ ys)
both_gained None b c xs ys p q = tt
both_gained (Some x) b c xs ys p q = subst (λ (o : Option (List File)). Gains o c ys) p q ∙ ap Some (append_assoc x xs ys)

-- Writing the campaign of one more seed adds its file.
pub campaign_gained : (folder : List ℕ) (f : Family) (seeds : List ℕ) (i seed : ℕ) (text : List ℕ) (a b c : Option (List File)) → i < length seeds → seed ≡ get_or seeds i seed
    → text ≡ campaign_text f seed → Gains a b (map (campaign_file folder f) (take i seeds)) → Gains b c ((kept_name folder seed, text) ∷ []) → Gains a c (map (campaign_file folder f) (take (i + 1) seeds))
campaign_gained folder f seeds i seed text a b c less at is p q =
    let front = map (campaign_file folder f) (take i seeds) in
    let whole : front ++ (kept_name folder seed, text) ∷ [] ≡ map (campaign_file folder f) (take (i + 1) seeds) =
    (λ j. front ++ (kept_name folder (at j), is j) ∷ []) ∙ (λ j. front ++ (kept_name folder (get_or seeds i seed), campaign_text f (at j)) ∷ []) ∙ sym (map_more (campaign_file folder f) seeds i seed less) in
    subst (λ (l : List File). Gains a c l) whole (both_gained a b c front ((kept_name folder seed, text) ∷ []) p q)

breaches_both : (folder : List ℕ) (xs ys : List (Option Breach)) → flat_map (breach_file folder) (xs ++ ys) ≡ flat_map (breach_file folder) xs ++ flat_map (breach_file folder) ys
breaches_both folder [] ys = refl
breaches_both folder (x ∷ xs) ys = ap (λ (l : List File). breach_file folder x ++ l) (breaches_both folder xs ys) ∙ sym (append_assoc (breach_file folder x) (flat_map (breach_file folder) xs) (flat_map (breach_file folder) ys))

-- Writing one more reduced campaign adds its file, or no file if there is no such campaign.
pub breach_gained : (folder : List ℕ) (all : List (Option Breach)) (i : ℕ) (o : Option Breach) (a b c : Option (List File)) → i < length all → o ≡ get_or all i o
    → Gains a b (flat_map (breach_file folder) (take i all)) → Gains b c (breach_file folder o) → Gains a c (flat_map (breach_file folder) (take (i + 1) all))
breach_gained folder all i o a b c less at p q =
    let front = flat_map (breach_file folder) (take i all) in
    let here = get_or all i o in
    let more : flat_map (breach_file folder) (take (i + 1) all) ≡ front ++ (breach_file folder here ++ []) = ap (flat_map (breach_file folder)) (take_more all i o less) ∙ breaches_both folder (take i all) (here ∷ []) in
    let whole : front ++ breach_file folder o ≡ flat_map (breach_file folder) (take (i + 1) all) =
    (λ j. front ++ breach_file folder (at j)) ∙ (ap (λ (l : List File). front ++ l) (sym (append-nil (breach_file folder here))) ∙ sym more) in
    subst (λ (l : List File). Gains a c l) whole (both_gained a b c front (breach_file folder o) p q)

-- The broken seeds of two lists of campaigns are those of the first and then those of the second.
cond_both : (b : Bool) (seed : ℕ) (xs ys : List ℕ) → cond b (xs ++ ys) (seed ∷ (xs ++ ys)) ≡ cond b xs (seed ∷ xs) ++ ys
cond_both true seed xs ys = refl
cond_both false seed xs ys = refl

pub broken_both : (xs ys : List Finding) → broken_seeds (xs ++ ys) ≡ broken_seeds xs ++ broken_seeds ys
broken_both [] ys = refl
broken_both (x ∷ xs) ys = ap (λ (l : List ℕ). cond (is_sound x.verdict) l (x.seed ∷ l)) (broken_both xs ys) ∙ cond_both (is_sound x.verdict) x.seed (broken_seeds xs) (broken_seeds ys)

seeds_both : (xs ys : List Finding) → seeds_in (xs ++ ys) ≡ seeds_in xs ++ seeds_in ys
seeds_both [] ys = refl
seeds_both (x ∷ xs) ys = ap (λ (l : List ℕ). x.seed ∷ l) (seeds_both xs ys)

kept_both : (all : Bool) (xs ys : List Finding) → kept_seeds all (xs ++ ys) ≡ kept_seeds all xs ++ kept_seeds all ys
kept_both true xs ys = seeds_both xs ys
kept_both false xs ys = broken_both xs ys

maps_both : (folder : List ℕ) (f : Family) (xs ys : List ℕ) → map (campaign_file folder f) (xs ++ ys) ≡ map (campaign_file folder f) xs ++ map (campaign_file folder f) ys
maps_both folder f [] ys = refl
maps_both folder f (x ∷ xs) ys = ap (λ (l : List File). campaign_file folder f x ∷ l) (maps_both folder f xs ys)

campaigns_both : (keep : Option (String Global)) (f : Family) (xs ys : List ℕ) → campaign_files keep f (xs ++ ys) ≡ campaign_files keep f xs ++ campaign_files keep f ys
campaigns_both None f xs ys = refl
campaigns_both (Some folder) f xs ys = maps_both (string_bytes folder) f xs ys

pub no_campaigns : (keep : Option (String Global)) (all : Bool) (f : Family) → campaign_files keep f (kept_seeds all []) ≡ []
no_campaigns None all f = refl
no_campaigns (Some folder) true f = refl
no_campaigns (Some folder) false f = refl

pub campaigns_gained : (keep : Option (String Global)) (all : Bool) (f : Family) (xs ys : List Finding) (a b c : Option (List File)) → Gains a b (campaign_files keep f (kept_seeds all xs)) → Gains b c (campaign_files keep f (kept_seeds all ys)) → Gains a c (campaign_files keep f (kept_seeds all (xs ++ ys)))
campaigns_gained keep all f xs ys a b c p q =
    let whole : campaign_files keep f (kept_seeds all xs) ++ campaign_files keep f (kept_seeds all ys) ≡ campaign_files keep f (kept_seeds all (xs ++ ys)) =
    sym (campaigns_both keep f (kept_seeds all xs) (kept_seeds all ys)) ∙ ap (campaign_files keep f) (sym (kept_both all xs ys)) in
    subst (λ (l : List File). Gains a c l) whole (both_gained a b c (campaign_files keep f (kept_seeds all xs)) (campaign_files keep f (kept_seeds all ys)) p q)

files_both : (keep : Option (String Global)) (xs ys : List (Option Breach)) → breach_files keep (xs ++ ys) ≡ breach_files keep xs ++ breach_files keep ys
files_both None xs ys = refl
files_both (Some folder) xs ys = breaches_both (string_bytes folder) xs ys

pub no_breaches : (keep : Option (String Global)) → breach_files keep [] ≡ []
no_breaches None = refl
no_breaches (Some folder) = refl

pub breaches_gained : (keep : Option (String Global)) (xs ys : List (Option Breach)) (a b c : Option (List File)) → Gains a b (breach_files keep xs) → Gains b c (breach_files keep ys) → Gains a c (breach_files keep (xs ++ ys))
breaches_gained keep xs ys a b c p q = subst (λ (l : List File). Gains a c l) (sym (files_both keep xs ys)) (both_gained a b c (breach_files keep xs) (breach_files keep ys) p q)

-- Lemmas about options that describe no task.
use Rattle.std.proofs.Common.{ℕ, ◌<◌, ◌≤◌, ◌≡◌, ◌∙◌, Bool, true, false, ap, arith, codes, refl, sym, subst, is_some, ◌⊎◌, inl, inr, [], List, Option, None, Some}
use Rattle.std.specs.Prelude.{IfErr, IfOk, IsErrAnd, IsSomeAnd, Result, Ok, Err, String, count_by, option_map, string_bytes, unwrap_or}
use Rattle.std.specs.Global.{Global}
use Rattle.std.specs.Str.{bytes_eq}
use Rattle.clap.specs.Words.{App, HasKind, IsAmong, Row, Text, fault_of, is_simple, is_simple_and_free, kind_of, matches_of}
use Rattle.clap.specs.declared.error.Error.{Error}
use Rattle.combine.specs.Names.{rule_named}
use Rattle.combine.specs.declared.campaign_rule.Rule.{Rule as CombineRule}
use Rattle.surveys.specs.declared.manner.Manner.TheVariants.{Oral}
use Rattle.surveys.specs.declared.span.CountRange.{CountRange}
use Rattle.surveyor.specs.Flags.{given, has, survey_app}
use Rattle.surveyor.specs.Meant.{AreSaid, Asks, IsBreaking, IsCommander, IsMerging, IsShowing, IsSurveying, IsWithin, bars_campaign, bars_keeping, bars_sum, complaint_in, folder_in, names_in, shape_in, some_traitors, value}
use Rattle.surveyor.specs.Numbers.{IsNoSpan, IsTold}
use Rattle.surveyor.specs.Words.{manner_named}
use Rattle.surveyor.specs.Wrong.{AreNoOrders, AreNoSeeds, AreTwice, AsksNothing, IsByClap, IsNoBreak, IsNoCommander, IsNoManner, IsNoPatience, IsNoSeed, IsOutside, IsRefused, IsSaid, IsUnmet, IsWrong}
use Rattle.surveyor.specs.Wrong.IsWrong.{generals, bound, traitors, seeds, commander, orders, patience, signed, shape, broken, keep, every, single, campaign, sum, twice}
use Rattle.surveyor.specs.declared.task.Asked.{Asked}
use Rattle.surveyor.specs.declared.task.Asked.TheVariants.{Survey as Surveys, Campaign, Break, Merge as Merges}
use Rattle.surveyor.specs.declared.task.AskedError.{AskedError}
use Rattle.surveyor.specs.declared.task.AskedError.TheVariants.{Words, Value, Rule, Memory}
use Rattle.surveyor.specs.declared.task.Merge.{Merge}
use Rattle.surveyor.specs.declared.task.OneCampaign.{OneCampaign}
use Rattle.surveyor.specs.declared.task.Survey.{Survey}
use Rattle.surveyor.proofs.FlagLemmas.{survey_free, survey_simple}
use Rattle.surveyor.proofs.NumberLemmas.{told_once}

pub no_within : (least most : ℕ) (word : Text) → most ≤ 13 → IsNoSpan 14 word → (s : CountRange) → IsWithin least most word s → ⊥
no_within least most word few none s w = (let m = w.up_to in let less : s.high < 14 = omega arith in none s.low s.high w.told w.ordered less)

pub other_within : (least most : ℕ) (word : Text) (own : CountRange) → IsTold word own.low own.high → (least ≤ own.low → own.high ≤ most → ⊥) → (s : CountRange) → IsWithin least most word s → ⊥
other_within least most word own told apart s w =
    let same = told_once word own.low own.high s.low s.high told w.told in
    let a = same.0 in
    let b = same.1 in
    let from = w.from in
    let up_to = w.up_to in
    apart (omega arith) (omega arith)

-- An error that rejects a part of the task rejects the whole task.
pub refused_so : (rows : List Row) (P Q : Type 0) (e : AskedError) → (P → Q) → IsRefused rows P e → IsRefused rows Q e
refused_so rows P Q (Words refusal) f h = h
refused_so rows P Q (Value why) f h = (h.0, f h.1)
refused_so rows P Q Rule f h = (h.0, f h.1)
refused_so rows P Q Memory f h = tt

-- An error with a given message is correct if what the message says is true.
said_so : (rows : List Row) (text : Text) (P Q : Type 0) (e : AskedError) → ((why : Text) → why ≡ text → P → IsWrong rows why) → (P → Q) → IsSaid text P e → IsRefused rows Q e
said_so rows text P Q (Words refusal) wrong f h = absurd h
said_so rows text P Q (Value why) wrong f h = (wrong why.now h.0 h.1, f h.1)
said_so rows text P Q Rule wrong f h = absurd h
said_so rows text P Q Memory wrong f h = absurd h

-- The error that `?` returns has the same property.
pub handed_on : {T : Type 0} (P : AskedError → Type 0) (r : Result T AskedError) (e : AskedError) → IsErrAnd r (λ own. own ≡ e) → P e → IfErr r P
handed_on P (Ok done) e is h = tt
handed_on P (Err own) e is h = subst P (sym is) h

-- ---- an option without which there is no survey

abbrev pub NoSurvey : List Row → Type 0
NoSurvey rows = (s : Survey) → IsSurveying rows s → ⊥

pub no_generals : (rows : List Row) (word text : Text) (e : AskedError) → word ≡ value (codes "generals") (codes "4") rows → text ≡ codes "--generals takes 2 to 13, such as 4 or 4..7" → IsSaid text (IsOutside 2 13 word) e → IsRefused rows (NoSurvey rows) e
no_generals rows word text e is says h =
    let own : IsOutside 2 13 word → IsOutside 2 13 (value (codes "generals") (codes "4") rows) = subst (IsOutside 2 13) is in
    said_so rows text (IsOutside 2 13 word) (NoSurvey rows) e (λ why same bars. generals (same ∙ says) (own bars)) (λ bars s told. own bars s.generals told.generals) h

pub no_bound : (rows : List Row) (word text : Text) (e : AskedError) → word ≡ value (codes "bound") (codes "1") rows → text ≡ codes "--bound takes 0 to 4, such as 1 or 1..2" → IsSaid text (IsOutside 0 4 word) e → IsRefused rows (NoSurvey rows) e
no_bound rows word text e is says h =
    let own : IsOutside 0 4 word → IsOutside 0 4 (value (codes "bound") (codes "1") rows) = subst (IsOutside 0 4) is in
    said_so rows text (IsOutside 0 4 word) (NoSurvey rows) e (λ why same bars. bound (same ∙ says) (own bars)) (λ bars s told. own bars s.bound told.bound) h

pub no_traitors : (rows : List Row) (word some text : Text) (e : AskedError) → word ≡ value (codes "traitors") some rows → some ≡ some_traitors rows → text ≡ codes "--traitors takes 0 to 13, such as 1 or 1..3" → IsSaid text (IsOutside 0 13 word) e → IsRefused rows (NoSurvey rows) e
no_traitors rows word some text e is all says h =
    let own : IsOutside 0 13 word → IsOutside 0 13 (value (codes "traitors") (some_traitors rows) rows) = subst (IsOutside 0 13) (is ∙ ap (λ (t : Text). value (codes "traitors") t rows) all) in
    said_so rows text (IsOutside 0 13 word) (NoSurvey rows) e (λ why same bars. traitors (same ∙ says) (own bars)) (λ bars s told. own bars s.traitors told.traitors) h

abbrev seeds_text : Text
seeds_text = codes "--seeds takes at most 10000000 seeds below 18446744073709551615, such as 7 or 1..1000"

pub no_seeds : (rows : List Row) (word : Text) (e : AskedError) → word ≡ value (codes "seeds") (codes "1..1000") rows → IsSaid seeds_text (AreNoSeeds word) e → IsRefused rows (NoSurvey rows) e
no_seeds rows word e is h =
    let own : AreNoSeeds word → AreNoSeeds (value (codes "seeds") (codes "1..1000") rows) = subst AreNoSeeds is in
    said_so rows seeds_text (AreNoSeeds word) (NoSurvey rows) e (λ why same bars. seeds same (own bars)) (λ bars s told. own bars (s.first, s.last) told.seeds) h

pub no_commander : (rows : List Row) (many word : Text) (own : CountRange) (e : AskedError) → many ≡ value (codes "generals") (codes "4") rows → word ≡ value (codes "commander") (codes "0") rows → IsWithin 2 13 many own
    → IsSaid (codes "--commander takes a number below the least of --generals") (IsNoCommander own.low word) e → IsRefused rows (NoSurvey rows) e
no_commander rows many word own e all is inside h =
    let within : IsWithin 2 13 (value (codes "generals") (codes "4") rows) own = subst (λ (t : Text). IsWithin 2 13 t own) all inside in
    let here : IsNoCommander own.low word → IsNoCommander own.low (value (codes "commander") (codes "0") rows) = subst (IsNoCommander own.low) is in
    said_so rows (codes "--commander takes a number below the least of --generals") (IsNoCommander own.low word) (NoSurvey rows) e
    (λ why same none. commander same own within (here none))
    (λ none s told.
    (let lows = told_once (value (codes "generals") (codes "4") rows) s.generals.low s.generals.high own.low own.high told.generals.told within.told in
    here none s.commander (subst (λ (n : ℕ). IsCommander n (value (codes "commander") (codes "0") rows) s.commander) lows.0 told.commander))) h

pub no_orders : (rows : List Row) (word : Text) (e : AskedError) → word ≡ value (codes "orders") (codes "0..1") rows → IsSaid (codes "--orders takes 0..1 to 0..255") (AreNoOrders word) e → IsRefused rows (NoSurvey rows) e
no_orders rows word e is h =
    let own : AreNoOrders word → AreNoOrders (value (codes "orders") (codes "0..1") rows) = subst AreNoOrders is in
    said_so rows (codes "--orders takes 0..1 to 0..255") (AreNoOrders word) (NoSurvey rows) e (λ why same none. orders same (own none)) (λ none s told. own none s.orders told.orders) h

no_rule : (o : Option Text) → IsSomeAnd o (λ word. rule_named word ≡ None) → manner_named o false ≡ None
no_rule None h = absurd h
no_rule (Some word) h = ap (λ (r : Option CombineRule). option_map Oral r) h

both_named : (o : Option Text) → is_some o ≡ true → manner_named o true ≡ None
both_named None h = cc
both_named (Some word) h = refl

pub no_manner : (rows : List Row) (e : AskedError) → IsNoManner rows e → IsRefused rows (NoSurvey rows) e
no_manner rows (Words refusal) h = absurd h
no_manner rows (Value why) h = (
  signed h.0 h.1 h.2,
  λ s told.
      (let none = ap (λ (b : Bool). manner_named (given (codes "rule") rows) b) h.1 ∙ both_named (given (codes "rule") rows) h.2 in
      let is = sym none ∙ told.manner in cc),
)
no_manner rows Rule h = (
  h,
  λ s told.
      (let none = ap (λ (b : Bool). manner_named (given (codes "rule") rows) b) h.0 ∙ no_rule (given (codes "rule") rows) h.1 in
      let is = sym none ∙ told.manner in cc),
)
no_manner rows Memory h = absurd h

pub no_patience : (rows : List Row) (e : AskedError) → IsSaid (codes "--patience takes 1 to 4096") (IsNoPatience (given (codes "patience") rows)) e → IsRefused rows (NoSurvey rows) e
no_patience rows e h = said_so rows (codes "--patience takes 1 to 4096") (IsNoPatience (given (codes "patience") rows)) (NoSurvey rows) e (λ why same bars. patience same bars) (λ bars s told. bars s.patience told.patience) h

pub no_shape : (rows : List Row) (e : AskedError) → IsSaid (complaint_in rows) (shape_in rows ≡ None) e → IsRefused rows (NoSurvey rows) e
no_shape rows e h = said_so rows (complaint_in rows) (shape_in rows ≡ None) (NoSurvey rows) e (λ why same none. shape same none) (λ none s told. (let is = sym none ∙ told.shape in cc)) h

pub no_keeping : (rows : List Row) (e : AskedError) → IsSaid (codes "--keep-all cannot be used with --keep or --shrink") (bars_keeping rows ≡ true) e → IsRefused rows (NoSurvey rows) e
no_keeping rows e h = said_so rows (codes "--keep-all cannot be used with --keep or --shrink") (bars_keeping rows ≡ true) (NoSurvey rows) e (λ why same bars. every same bars) (λ bars s told. (let both = sym bars ∙ told.every.single in cc)) h

-- ---- options that cannot be used with `--break`

abbrev pub NoBreak : List Row → Type 0
NoBreak rows = (s : Survey) (is_table : Bool) → IsBreaking rows s is_table → ⊥

pub no_break : (rows : List Row) (e : AskedError) → IsRefused rows (NoSurvey rows) e → IsRefused rows (NoBreak rows) e
no_break rows e h = refused_so rows (NoSurvey rows) (NoBreak rows) e (λ bars s is_table told. bars s told.survey) h

other_shape : (rows : List Row) (own : Survey) → IsSurveying rows own → IsNoBreak own.shape → NoBreak rows
other_shape rows own is bars s is_table told =
    let same : Some own.shape ≡ Some s.shape = sym is.shape ∙ told.survey.shape in
    let equal : own.shape ≡ s.shape = cc in
    bars is_table (equal ∙ told.shape)

is_kept : (own other : Option (String Global)) (word : Option Text) → option_map string_bytes own ≡ word → option_map string_bytes other ≡ word → is_some own ≡ true → other ≡ None → ⊥
is_kept None other word is same kept none = cc
is_kept (Some name) None word is same kept none = cc
is_kept (Some name) (Some o) word is same kept none = cc

has_kept : (own : Option (String Global)) (word : Option Text) → option_map string_bytes own ≡ word → is_some own ≡ true → is_some word ≡ true
has_kept None word is kept = cc
has_kept (Some name) word is kept = sym (ap (λ (o : Option Text). is_some o) is)

pub no_break_shape : (rows : List Row) (own : Survey) (e : AskedError) → has (codes "break") rows ≡ true → IsSurveying rows own
    → IsSaid (codes "--break can be used with --table, but not with --lines, --svg or --shrink") (IsNoBreak own.shape) e ⊎ IsSaid (codes "--break cannot be used with --keep: redirect its output to a file") (is_some own.keep ≡ true) e → IsRefused rows (NoBreak rows) e
no_break_shape rows own e has_it is (inl h) = said_so rows (codes "--break can be used with --table, but not with --lines, --svg or --shrink") (IsNoBreak own.shape) (NoBreak rows) e
    (λ why same bars. broken same has_it own.shape is.shape bars) (other_shape rows own is) h
no_break_shape rows own e has_it is (inr h) = said_so rows (codes "--break cannot be used with --keep: redirect its output to a file") (is_some own.keep ≡ true) (NoBreak rows) e
    (λ why same kept. keep same has_it (has_kept own.keep (folder_in rows) is.keep kept))
    (λ kept s is_table told. is_kept own.keep s.keep (folder_in rows) is.keep told.survey.keep kept told.keep) h

-- ---- options that cannot be used with `--campaign`

abbrev pub NoCampaign : Text → List Row → Type 0
NoCampaign word rows = (c : OneCampaign) → IsShowing word rows c → ⊥

pub no_shown_survey : (word : Text) (rows : List Row) (e : AskedError) → IsRefused rows (NoSurvey rows) e → IsRefused rows (NoCampaign word rows) e
no_shown_survey word rows e h = refused_so rows (NoSurvey rows) (NoCampaign word rows) e (λ bars c told. bars c.survey told.survey) h

pub no_shown_seed : (word : Text) (rows : List Row) (e : AskedError) → given (codes "campaign") rows ≡ Some word
    → IsSaid (codes "--campaign prints one campaign: it can be used only with options of the family") (bars_campaign rows ≡ true) e ⊎ IsSaid (codes "--campaign takes a seed below 18446744073709551615") (IsNoSeed word) e → IsRefused rows (NoCampaign word rows) e
no_shown_seed word rows e is (inl h) = said_so rows (codes "--campaign prints one campaign: it can be used only with options of the family") (bars_campaign rows ≡ true) (NoCampaign word rows) e
    (λ why same bars. single same (ap (λ (o : Option Text). is_some o) is) bars) (λ bars c told. (let both = sym bars ∙ told.single in cc)) h
no_shown_seed word rows e is (inr h) = said_so rows (codes "--campaign takes a seed below 18446744073709551615") (IsNoSeed word) (NoCampaign word rows) e
    (λ why same none. campaign same word is none) (λ none c told. none c.seed told.seed) h

-- ---- options that cannot be used with `--sum`

abbrev pub NoMerge : List Text → List Row → Type 0
NoMerge names rows = (m : Merge) → IsMerging names rows m → ⊥

pub once_named : (names : List Text) → (AreTwice names → ⊥) → count_by (λ name. bytes_eq name (codes "-")) names ≤ 1
once_named names h = omega arith

pub no_merge_shape : (names : List Text) (rows : List Row) (e : AskedError) → IsSaid (complaint_in rows) (shape_in rows ≡ None) e → IsRefused rows (NoMerge names rows) e
no_merge_shape names rows e h = said_so rows (complaint_in rows) (shape_in rows ≡ None) (NoMerge names rows) e (λ why same none. shape same none) (λ none m told. (let is = sym none ∙ told.shape in cc)) h

no_said : (o : Option Text) (s : Option (ℕ × ℕ)) → IsSomeAnd o AreNoSeeds → AreSaid o s → ⊥
no_said None s h told = absurd h
no_said (Some word) None h told = absurd told
no_said (Some word) (Some s) h told = h s told

said_value : (o : Option Text) → IsSomeAnd o AreNoSeeds → AreNoSeeds (unwrap_or o (codes "1..1000"))
said_value None h = absurd h
said_value (Some word) h = h

pub no_merge_seeds : (names : List Text) (rows : List Row) (e : AskedError) → IsSaid seeds_text (IsSomeAnd (given (codes "seeds") rows) AreNoSeeds) e → IsRefused rows (NoMerge names rows) e
no_merge_seeds names rows e h = said_so rows seeds_text (IsSomeAnd (given (codes "seeds") rows) AreNoSeeds) (NoMerge names rows) e
    (λ why same bars. seeds same (said_value (given (codes "seeds") rows) bars)) (λ bars m told. no_said (given (codes "seeds") rows) m.seeds bars told.seeds) h

pub no_merge_sum : (names : List Text) (rows : List Row) (e : AskedError) → names_in rows ≡ Some names
    → IsSaid (codes "--sum plays nothing: it can be used only with --seeds, --table, --csv and --svg") (bars_sum rows ≡ true) e ⊎ IsSaid (codes "standard input can be read only once") (AreTwice names) e → IsRefused rows (NoMerge names rows) e
no_merge_sum names rows e is (inl h) = said_so rows (codes "--sum plays nothing: it can be used only with --seeds, --table, --csv and --svg") (bars_sum rows ≡ true) (NoMerge names rows) e
    (λ why same bars. sum same (ap (λ (o : Option (List Text)). is_some o) is) bars) (λ bars m told. (let both = sym bars ∙ told.alone in cc)) h
no_merge_sum names rows e is (inr h) = said_so rows (codes "standard input can be read only once") (AreTwice names) (NoMerge names rows) e
    (λ why same more. twice same names is more) (λ more m told. (let once = told.once in omega arith)) h

-- ---- options that describe no task at all

pub no_merge_asked : (names : List Text) (rows : List Row) (e : AskedError) → names_in rows ≡ Some names → IsRefused rows (NoMerge names rows) e → IsRefused rows (AsksNothing rows) e
no_merge_asked names rows e is h = refused_so rows (NoMerge names rows) (AsksNothing rows) e go h
  where
    go : NoMerge names rows → AsksNothing rows
    go bars (Surveys s) told = (let both = sym is ∙ told.0 in cc)
    go bars (Campaign c) told = (let both = sym is ∙ told.0 in cc)
    go bars (Break s is_table) told = (let both = sym is ∙ told.0 in cc)
    go bars (Merges m) told =
        let both : Some told.0 ≡ Some names = sym told.1 ∙ is in
        let same : told.0 ≡ names = cc in
        bars m (subst (λ (l : List Text). IsMerging l rows m) same told.2)

pub no_campaign_asked : (word : Text) (rows : List Row) (e : AskedError) → names_in rows ≡ None → given (codes "campaign") rows ≡ Some word → IsRefused rows (NoCampaign word rows) e → IsRefused rows (AsksNothing rows) e
no_campaign_asked word rows e is one h = refused_so rows (NoCampaign word rows) (AsksNothing rows) e go h
  where
    go : NoCampaign word rows → AsksNothing rows
    go bars (Surveys s) told = (let both = sym one ∙ told.1 in cc)
    go bars (Campaign c) told =
        let both : Some told.1 ≡ Some word = sym told.2 ∙ one in
        let same : told.1 ≡ word = cc in
        bars c (subst (λ (w : Text). IsShowing w rows c) same told.3)
    go bars (Break s is_table) told = (let both = sym one ∙ told.1 in cc)
    go bars (Merges m) told = (let both = sym is ∙ told.1 in cc)

pub no_break_asked : (rows : List Row) (e : AskedError) → names_in rows ≡ None → given (codes "campaign") rows ≡ None → has (codes "break") rows ≡ true → IsRefused rows (NoBreak rows) e → IsRefused rows (AsksNothing rows) e
no_break_asked rows e is many breaks h = refused_so rows (NoBreak rows) (AsksNothing rows) e go h
  where
    go : NoBreak rows → AsksNothing rows
    go bars (Surveys s) told = (let both = sym breaks ∙ told.2 in cc)
    go bars (Campaign c) told = (let both = sym many ∙ told.2 in cc)
    go bars (Break s is_table) told = bars s is_table told.3
    go bars (Merges m) told = (let both = sym is ∙ told.1 in cc)

pub no_survey_asked : (rows : List Row) (e : AskedError) → names_in rows ≡ None → given (codes "campaign") rows ≡ None → has (codes "break") rows ≡ false → IsRefused rows (NoSurvey rows) e → IsRefused rows (AsksNothing rows) e
no_survey_asked rows e is many plain h = refused_so rows (NoSurvey rows) (AsksNothing rows) e go h
  where
    go : NoSurvey rows → AsksNothing rows
    go bars (Surveys s) told = bars s told.3
    go bars (Campaign c) told = (let both = sym many ∙ told.2 in cc)
    go bars (Break s is_table) told = (let both = sym plain ∙ told.2 in cc)
    go bars (Merges m) told = (let both = sym is ∙ told.1 in cc)

-- ---- the values that `clap` finds, and the command lines that it rejects

pub meant_found : (app : App) (words : List Text) (rows : List Row) (r : Result Asked AskedError) → app ≡ survey_app → (is_simple app ≡ true → rows ≡ matches_of app words) → IfOk r (Asks rows)
    → IfOk r (Asks (matches_of survey_app words))
meant_found app words rows r is meets h =
    subst (λ (l : List Row). IfOk r (Asks l)) (meets (ap is_simple is ∙ survey_simple) ∙ ap (λ (a : App). matches_of a words) is) h

pub meant_taken : (app : App) (words : List Text) (r : Result Asked AskedError) → app ≡ survey_app → (is_simple_and_free app ≡ true → fault_of app words ≡ []) → IfOk r (λ x. fault_of survey_app words ≡ [])
meant_taken app words (Ok asked) is passes = sym (ap (λ (a : App). fault_of a words) is) ∙ passes (ap is_simple_and_free is ∙ survey_free)
meant_taken app words (Err e) is passes = tt

pub meant_refused : (app : App) (words : List Text) (rows : List Row) (r : Result Asked AskedError) → app ≡ survey_app → (is_simple app ≡ true → rows ≡ matches_of app words)
    → IfErr r (IsRefused rows (AsksNothing rows)) → IfErr r (IsUnmet words)
meant_refused app words rows (Ok asked) is meets h = tt
meant_refused app words rows (Err e) is meets h = go e (subst (λ (l : List Row). IsRefused l (AsksNothing l) e) (meets (ap is_simple is ∙ survey_simple) ∙ ap (λ (a : App). matches_of a words) is) h)
  where
    go : (own : AskedError) → IsRefused (matches_of survey_app words) (AsksNothing (matches_of survey_app words)) own → IsUnmet words own
    go (Words refusal) k = absurd k
    go (Value why) k = k
    go Rule k = k
    go Memory k = tt

pub untaken : (app : App) (words : List Text) (error : Error) (told : AskedError) → app ≡ survey_app → IsByClap error told → (is_simple_and_free app ≡ true → HasKind (fault_of app words) error) → IsUnmet words told
untaken app words error (Words own) is (same, other) fails = go (fails (ap is_simple_and_free is ∙ survey_free))
  where
    go : HasKind (fault_of app words) error → IsAmong (kind_of own) (fault_of survey_app words)
    go (inl wants) = absurd (other wants)
    go (inr among) = subst (λ (a : App). IsAmong (kind_of own) (fault_of a words)) is (subst (λ (o : Error). IsAmong (kind_of o) (fault_of app words)) (sym same) among)
untaken app words error (Value why) is h fails = absurd h
untaken app words error Rule is h fails = absurd h
untaken app words error Memory is h fails = tt

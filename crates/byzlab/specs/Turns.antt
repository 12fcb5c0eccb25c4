-- Defines how the requests of one call end, which are served in order.
use Rattle.std.specs.Prelude.{ℕ, suc, ◌≡◌, ◌≤◌, ◌<◌, ◌⊎◌, Bool, List, Option, None, Some, IfSome, IsSome, IsSomeAnd, Vec, false, length, map, slice_index_or, true}
use Rattle.std.specs.Borrow.{Bor}
use Rattle.std.specs.Global.{Global}
use Rattle.clap.specs.Words.{IsAmong, fault_of, kind_of}
use Rattle.cli_words.specs.Asked.{spelt, words_of}
use Rattle.cli_words.specs.Lab.{lab_app}
use Rattle.cli_words.specs.Several.{requests_of}
use Rattle.cli_words.specs.Tasks.{IfMisuse, IfWords, IsMisused}
use Rattle.cli_words.specs.Usage.{Text}
use Rattle.cli_words.specs.declared.errors.TaskError.{TaskError}
use Rattle.byzlab.specs.Failures.{AsksNothing, IsUnasked, error_of}
use Rattle.byzlab.specs.declared.endings.Endings.{Endings}
use Rattle.byzlab.specs.declared.no_request.Unasked.{Unasked}

-- States that these words of a request ask for no task, and that this error is a reason.
pub record IsErrorOf (words : List (Bor Text)) (error : TaskError) : Type 0 where
  pub nothing : AsksNothing words
  pub kind : IfWords error (λ refusal. IsAmong (kind_of refusal) (fault_of lab_app (words_of words)))
  pub misused : IfMisuse error (λ misuse. IsSomeAnd (spelt (words_of words)) (λ told. IsMisused told misuse))

-- States that these words of a request ask for no task, and that this was reported about them.
abbrev pub IsToldOf : List (Bor Text) → Unasked → Type 0
IsToldOf words unasked = IsErrorOf words (error_of unasked.why) × IsUnasked (error_of unasked.why) unasked.status

-- States that the words of the request at index `place` ask for no task, and that this was reported about them.
abbrev pub IsToldAt : ℕ → List (Vec (Bor Text) Global) → Unasked → Type 0
IsToldAt place requests unasked =
    (words : Vec (Bor Text) Global) × (place < length requests) × (slice_index_or requests place words ≡ words)
    × IsToldOf words.items unasked

-- Returns the index of the first request whose output failed, now that the request with index `place` has ended. The
-- first argument is this index among the earlier requests.
abbrev pub first_unwritten : Option ℕ → ℕ → Bool → Option ℕ
first_unwritten None place true = Some place
first_unwritten None place false = None
first_unwritten (Some first) place is_unwritten = Some first

-- States that the first `count` requests were served: all of them, unless an output failed or the next words ask for no
-- task. Only the last of them can have an output that failed, and none of them if such words come next.
pub record AreEndingsOf (requests : List (Vec (Bor Text) Global)) (endings : Endings) : Type 0 where
  pub few : endings.count ≤ length requests
  pub all : (endings.count ≡ length requests) ⊎ (IsSome endings.unwritten ⊎ IsSome endings.unasked)
  pub last : IfSome endings.unwritten (λ place. endings.count ≡ suc place)
  pub unasked : IfSome endings.unasked (λ unasked. (endings.unwritten ≡ None)
      × (unasked.status ≤ endings.worst) × IsToldAt endings.count requests unasked)

-- States that the requests that these words of a call make were served and ended in this way.
abbrev pub AreDone : List Text → Endings → Type 0
AreDone words endings =
    (requests : List (Vec (Bor Text) Global))
    × (map (λ request. words_of request.items) requests ≡ requests_of words) × AreEndingsOf requests endings

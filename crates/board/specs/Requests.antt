-- How many words the reply to a request has (own).
use Rattle.std.specs.Prelude.{◌≡◌, length}
use Rattle.semantics.specs.declared.reply.Reply.{Reply}
use Rattle.semantics.specs.declared.reply.Reply.TheVariants.{Word, Words}
use Rattle.semantics.specs.declared.request.Request.{Request}
use Rattle.semantics.specs.declared.request.Request.TheVariants.{Copy}
pub use Rattle.semantics.specs.Call.{IsRequest}

-- States that a reply has the form that the request asks for: for a copy the number of words that it names, and else
-- one word.
abbrev pub IsReplyTo : Request → Reply → Type 0
IsReplyTo (Copy span) (Words words) = length words ≡ span.1
IsReplyTo (Copy span) (Word word) = ⊥
IsReplyTo request (Word word) = Unit {0}
IsReplyTo request (Words words) = ⊥

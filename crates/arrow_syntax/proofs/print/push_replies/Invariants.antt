use Rattle.std.proofs.Common.{◌≡◌, ◌++◌, map, take, string_bytes}
use Rattle.arrow_model.specs.Answer.{answer_of}
use Rattle.arrow_syntax.specs.Text.{answers_text}
use Rattle.arrow_syntax.proofs.print.push_replies.Given as goal

abbrev pub invariant-loop-reply : goal.invariant-loop-reply
invariant-loop-reply l = string_bytes l.text ≡ string_bytes l.fn.text
    ++ answers_text (map answer_of (take l.reply-index l.replies))

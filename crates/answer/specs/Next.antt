-- How the code comes to a step's answer: condition by condition. Assumes nothing.
use Rattle.std.specs.Prelude.{Bool, cond, Err}
use Rattle.answer.specs.declared.Refusal.{Refusal}
use Rattle.answer.specs.Answer.{Answer, Done, when_done}

-- one condition more: where nothing was refused so far, its refusal unless it holds
abbrev pub next : (so_far : Answer) (holds : Bool) (refusal : Refusal) → Answer
next so_far holds refusal = when_done so_far (cond holds Done (Err refusal)) so_far

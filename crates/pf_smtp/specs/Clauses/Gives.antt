-- An answer of the code, and the state after it, are those of a step. A word of the code's contracts.
use Rattle.std.specs.Prelude.{◌≡◌, [], ◌∷◌}
use Rattle.std.specs.Option.{option_to_list}
use Rattle.pf_smtp.specs.Step.{Step}
use Rattle.pf_smtp.specs.declared.state.Answer.{Answer}
use Rattle.pf_smtp.specs.declared.state.State.{State}

-- what the code answered is the step
pub record Gives (given : Step) (next : State) (answer : Answer) : Type 0 where
  pub replies : given.replies ≡ answer.reply ∷ []
  pub records : given.records ≡ []
  pub entries : given.entries ≡ option_to_list answer.entry
  pub state : next ≡ given.next

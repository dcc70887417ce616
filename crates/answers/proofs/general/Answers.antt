-- One record (`tells_first`).
use Rattle.ends.proofs.Laws.{tells_first}
use Rattle.answers.proofs.general.Goals as goal

pub returns : goal.returns
returns c = tells_first c.general_response.ensures

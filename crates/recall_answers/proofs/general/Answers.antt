-- One record (`general-told`).
use Rattle.recall_answers.proofs.Laws.{general-told}
use Rattle.recall_answers.proofs.general.Goals as goal

pub returns : goal.returns
returns c = general-told c.said.ensures c.general_response.ensures

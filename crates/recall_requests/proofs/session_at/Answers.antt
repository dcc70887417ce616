-- Field by field; a Duration is at most 100 * 0xFFFFFFFF ninths, so that the end fits.
use Rattle.recall_requests.proofs.Checks.{session-is}
use Rattle.recall_requests.proofs.session_at.Goals as goal

pub returns : goal.returns
returns c = session-is c.args.t c.args.conn c.args.r c.prior_of.ensures c.from_ticks-d.ensures

-- The structure that is kept, in the record (`config-says`).
use mathlib.Core.Path.{◌∙◌}
use native.Mathlib.Omega.{arith}
use Rattle.answers.proofs.Laws.{stored-length, stored-padded, config-says, kept-short}
use Rattle.answers.proofs.answer_config.Goals as goal

pub config_response-requires : goal.config_response-requires
config_response-requires c =
    let is = c.structure-hardware.ensures ∙ c.kept.ensures.is in
    let h = kept-short c.requires.whole.bytes c.args.conn c.requires.conn_bound is in record {
      section_in_bounds = omega (arith, h, c.requires.section_len_bound, c.requires.in_bounds);
      hardware_len_bound = (h, c.requires.section_len_bound);
      name_len = stored-length c.requires.whole.bytes c.name.ensures;
      name_value = stored-padded c.requires.whole.bytes c.name.ensures;
    }

pub returns : goal.returns
returns c =
    config-says c.args.m.now c.args.b.now c.args.conn c.structure-hardware.result.now c.args.section.now c.name.ensures
    (c.structure-hardware.ensures ∙ c.kept.ensures.is) c.config_response.ensures

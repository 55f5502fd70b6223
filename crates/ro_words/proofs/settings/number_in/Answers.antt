use Rattle.std.proofs.Common.{◌∙◌}
use Rattle.ro_words.proofs.Numbers.{number_parsed}
use Rattle.ro_words.proofs.settings.number_in.Goals as goal

pub returns : goal.returns
returns c = c.ok.ensures.value ∙ number_parsed _ c.args.text.now c.parse.result c.parse.ensures.value.0

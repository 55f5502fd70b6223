use Rattle.ro_words.proofs.settings.settings_of.Goals as goal

pub returns-clause-in_range : goal.returns-clause-in_range
returns-clause-in_range c = record {
  replicas = c.in_ok-replicas_of.ensures.in_range;
  drivers = c.in_ok-small_number_for.ensures.in_range;
  watchdog = c.in_ok-small_number_for-2.ensures.in_range;
  quantum = c.in_ok-small_number_for-3.ensures.in_range;
  limit = c.in_ok-number_for.ensures.in_range;
  scrub = c.in_ok-number_for-2.ensures.in_range;
}

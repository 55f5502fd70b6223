-- The parts are lemmas.
use Rattle.ro_rows.proofs.TableRows.{settings-replicas, settings-drivers, settings-watchdog, settings-quantum, settings-limit}
use Rattle.ro_rows.proofs.tables.settings_row.Goals as goal

pub returns-clause-replicas : goal.returns-clause-replicas
returns-clause-replicas c = settings-replicas

pub returns-clause-drivers : goal.returns-clause-drivers
returns-clause-drivers c = settings-drivers

pub returns-clause-watchdog : goal.returns-clause-watchdog
returns-clause-watchdog c = settings-watchdog

pub returns-clause-quantum : goal.returns-clause-quantum
returns-clause-quantum c = settings-quantum

pub returns-clause-limit : goal.returns-clause-limit
returns-clause-limit c = settings-limit

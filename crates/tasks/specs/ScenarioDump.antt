-- What is passed on of scenario_dump: the text of a dump.
pub use Rattle.scenario_dump.specs.Texts

-- Whether clauses hold in a browser and on its device.
use Rattle.std.specs.Prelude.{List, Bool, true, false, not}
use Rattle.std.specs.List.{list_all, list_any}
use Rattle.cascade_spec.specs.declared.environment.Environment.{Environment}
use Rattle.cascade_spec.specs.Truth.{feature_holds, type_holds}
use Rattle.media_clauses.specs.declared.clause.Clause.{Clause}
use Rattle.media_clauses.specs.declared.clause.Fact.{Fact}
use Rattle.media_clauses.specs.declared.clause.Fact.TheVariants as facts
use Rattle.media_clauses.specs.declared.clause.Literal.{Literal}

-- does the fact hold?
abbrev pub fact_holds : Environment → Fact → Bool
fact_holds env (facts.Media media) = type_holds env media
fact_holds env (facts.Feature f) = feature_holds env f

-- the answer, or the opposite
abbrev pub signed : Bool → Bool → Bool
signed true b = b
signed false b = not b

-- a literal holds where its fact does, or where it does not
abbrev pub literal_holds : Environment → Literal → Bool
literal_holds env l = signed l.positive (fact_holds env l.fact)

-- a clause holds where one of its literals does
abbrev pub clause_holds : Environment → Clause → Bool
clause_holds env c = list_any (literal_holds env) c.literals

-- clauses hold together
abbrev pub clauses_hold : Environment → List Clause → Bool
clauses_hold env cs = list_all (clause_holds env) cs

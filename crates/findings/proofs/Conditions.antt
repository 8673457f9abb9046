-- What stands in each kind of supports condition.
use Rattle.findings.specs.SupportsFunctions.{called-And, called-Or, called-Not, called-Declared, called-Function}

pub ruleset called = (called-And, called-Or, called-Not, called-Declared, called-Function)

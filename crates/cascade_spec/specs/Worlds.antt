-- What a sheet is looked at in.
use Rattle.cascade_spec.specs.declared.document.Document.{Document}
use Rattle.cascade_spec.specs.declared.environment.Environment.{Environment}

-- a document, and what the browser and its device decide
pub record World : Type 0 where
  pub document : Document
  pub environment : Environment

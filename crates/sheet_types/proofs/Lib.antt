pub mod PlacesTrees
pub mod SaidItems
pub mod ItemShapes
pub mod Computing
pub mod PassedTexts
pub mod PlacesConditions

mod Fronts
mod Printing
mod Spaces

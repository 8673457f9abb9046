-- What the clauses of private functions alone cite. A reader need not believe it.
pub mod Printed

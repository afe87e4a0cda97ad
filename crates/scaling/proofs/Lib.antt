-- What the functions compute, over plain numbers, by subject.
mod Powers
mod Exponent

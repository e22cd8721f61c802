mod Cuts
mod Fronts
mod Pieces
mod Values

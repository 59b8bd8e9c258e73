mod Labelled
mod Lines
mod Printed

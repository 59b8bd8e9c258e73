mod ItemWords
mod Objects
mod Printed
mod Trials
mod Words
mod Refusing

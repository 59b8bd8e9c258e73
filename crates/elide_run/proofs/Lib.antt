mod Ends
mod Printed
mod Refusing
mod Rows
mod Running
mod Steps
